pub mod OneFrameMore
mod Greets
pub mod Openings
mod MessageParts
pub mod Runs
pub mod Carried
pub mod Frames
pub mod Phases
pub mod Stepping
mod Ends
mod Servers
mod Starts
pub mod OpeningFrames
pub mod ChunkFrames
mod Answering
pub mod Askings
pub mod AskedLater
pub mod HeldTokens
pub mod ClientFrames
mod ClientGreets
pub mod ClientAsking
mod AskAnswers
mod ClientStands
mod AskedNext
mod AskedOnce
mod ClientOpenings
pub mod ClientTalks
mod ClientPhases
pub mod ClientChunks
mod ClientSteps
mod MemoryLines
mod MomentLists
pub mod ClientSending
mod ReplyLimits
mod Replies
pub mod Moving
