pub mod Basics
pub mod BindingLemmas
pub mod KeyMapLemmas
pub mod ObjectsLemmas
pub mod SlotLemmas
pub mod StoredLemmas
