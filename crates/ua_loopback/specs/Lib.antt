-- The definitions, in the order in which they are best read: the timestamps of a server's answers;
-- how the server of a transport began; the response to bytes, and the state of its services after
-- them; what its transport keeps; the outcome of operations over it; the states of both ends
-- between two operations; what operations tell the server; and which operations are accepted, what
-- is sent for them and their outcomes; why a call may fail; and a client over any transport to a
-- server, call by call.
pub mod Times
pub mod Beginning
pub mod Says
pub mod Kept
pub mod Asked
pub mod Course
pub mod Together
pub mod Turns
pub mod Accepted
pub mod Sends
pub mod Replies
pub mod Faults
pub mod Talking
pub mod inside
