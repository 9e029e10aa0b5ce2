-- What both ends do in a conversation, and what each has of it at any time.
pub mod Talk
pub mod EachCall
pub mod Answering
pub mod Clients
pub mod Calling
pub mod AsAnswered
pub mod Questions
pub mod Headline
