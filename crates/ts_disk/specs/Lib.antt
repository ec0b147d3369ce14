pub mod CrashImage
pub mod Disk
pub mod FailDisk
pub mod FileCalls
pub mod ImageLaws
pub mod MemDisk
pub mod PickedImages
