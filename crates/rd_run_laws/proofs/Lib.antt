mod Stamps
mod Stops
mod Faults
mod Endings
mod FailedReads
mod Links
