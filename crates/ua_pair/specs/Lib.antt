-- The dissector, in the order in which its definitions are best read: the lines of frames (UA TCP
-- messages), the names of messages, what the frames before one contribute, the lines of one frame,
-- the reasons against it, and last the lines of a whole list of bytes.
pub mod Lines
pub mod Encodings
pub mod Names
pub mod Before
pub mod Styles
pub mod Told
pub mod Refused
pub mod Dissected
pub mod Telling
pub mod Dissecting
