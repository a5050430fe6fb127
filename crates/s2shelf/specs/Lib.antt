pub mod OpenedFile
pub mod Shelf
pub mod MemoryShelf
pub mod DirShelf
pub mod FileCalls
pub mod Working
