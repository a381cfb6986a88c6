mod Files
mod Refused
mod Dialects
mod Joining
