pub mod GoodWrite
pub mod Replying
