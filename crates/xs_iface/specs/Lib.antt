pub mod Scan
pub mod ReservedWords
pub mod Paragraph
pub mod PassedLines
pub mod Iface
pub mod SumForm
pub mod Laws
pub mod Repeats
