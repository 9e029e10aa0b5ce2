-- The definitions, in the order in which they are best read: what a conversation is at each end;
-- what its messages are, and the outcomes of calls.
pub mod Conversation
pub mod ClientConversation
pub mod ServerMessages
pub mod Paired
-- What one end decodes of what the other writes, and the same operations at earlier places.
pub mod ServerReads
pub mod ClientReads
pub mod AskedEarlier
pub mod InStep
-- What a client sends from its state, and what a server answers to it, as lists.
pub mod Outgoing
pub mod Answers
pub mod Rounds
-- Messages that come merged, with renewals among them, and the state of an end after them.
pub mod Merges
pub mod ExampleMerges
