-- Questions over a transport, in the order in which the definitions are best read: how faults are
-- told, what words name, the state of a transport, the steps of a conversation, the handling of
-- replies, how a token policy is chosen, the conversations, and what of them a text shows.
pub mod Told
pub mod FaultText
pub mod Words
pub mod Line
pub mod Steps
pub mod Replies
pub mod Policy
pub mod Endpoints
pub mod Question
pub mod Session
pub mod InSession
pub mod Printed
