pub mod PictureLemmas
pub mod CopyLemmas
pub mod RunLemmas
pub mod Repainting
pub mod ResizingLemmas
pub mod ReadingLemmas
pub mod WritingLemmas
