-- The definitions, in the order in which they are best read: what goes over the transport, what is
-- told of a call, what is received, the state of a client, the outcomes of its calls, and how it
-- begins a session.
pub mod Carried
pub mod Told
pub mod Hearing
pub mod ClientPlace
pub mod Opening
pub mod Client
pub mod Renewing
pub mod Sent
pub mod Replies
pub mod Slots
pub mod Calls
pub mod Kept
pub mod Session
