-- Demand 3 of every edit that is not refused, proved of the written rules. The theorem is Demand3's; the files above it come to it in
-- the order of these lines. Answered says it of a call's answer, Create says what a new list keeps to, and Convert what a
-- converted one does. Tidy says besides that tidying twice is the same as once.
pub mod InPlace
pub mod Void
pub mod AddVoid
pub mod Add
pub mod AddAligned
pub mod Relocate
pub mod Tidy
pub mod Demand3
pub mod Answered
pub mod Create
pub mod Convert
