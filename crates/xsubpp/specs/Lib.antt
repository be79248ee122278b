pub mod StatusNumbers
pub mod CommandLine
pub mod Answers
pub mod Reads
pub mod Lacking
pub mod Written
pub mod FaultyFiles
