pub mod Dissects
pub mod Recorded
pub mod Judges
pub mod Printing
pub mod Lines
pub mod Words
pub mod Looped
pub mod Lifetime
pub mod LineTask
pub mod Talked
pub mod Printed
pub mod Blamed
-- A script that is run over nodes: what its lines request, why it is not run, what is printed of
-- it, and what both ends sent.
pub mod Script
pub mod ScriptFaults
pub mod ScriptPrinted
pub mod Conversed
