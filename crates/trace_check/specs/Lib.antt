-- ---- which events and ends are those of runs, entry by entry
pub mod Judging
-- ---- what is known of the events so far, and what is kept of them
pub mod Going
pub mod JudgedParts
