-- ---- what is read of instances before children are made, or ended
pub mod Children
