-- What is noted of the tokens' places while the tree is walked, and lines and columns in the lent map.
pub mod Signs
pub mod Signed
pub mod Notes
pub mod Spots
