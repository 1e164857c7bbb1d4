pub mod Keeping
pub mod PlainLines
pub mod Printed
pub mod RankTexts
pub mod SidesWords
