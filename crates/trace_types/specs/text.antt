-- Names, lines, requests and replies as bytes.
pub mod StampText
pub mod Name
pub mod NamePadding
pub mod Text
pub mod Reading
pub mod Lines
