-- In reading order: where the numbers that an end chose stand in a frame, which of them a number is,
-- the bytes with our numbers in their place, which replies answer which requests, the requests of a
-- client, what a server opened, the limits of both, the order in which they sent, or may have sent, the
-- verdicts on one side, where a frame begins, and the verdicts on both sides.
pub mod RawFrames
pub mod Names
pub mod Renumbered
pub mod Kinds
pub mod Requests
pub mod Begun
pub mod Openings
pub mod SidesLimits
pub mod Agreed
pub mod Marks
pub mod Guessed
pub mod Guessing
pub mod Verdicts
pub mod Judging
pub mod Starts
pub mod Judged
