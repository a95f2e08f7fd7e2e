pub mod Bindings
pub mod KeyMap
pub mod Objects
pub mod Stored
