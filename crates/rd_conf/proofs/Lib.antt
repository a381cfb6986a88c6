pub mod TextLemmas
pub mod PortLemmas
pub mod FirstVersion
pub mod Documents
pub mod KeyLemmas
pub mod NameLemmas
