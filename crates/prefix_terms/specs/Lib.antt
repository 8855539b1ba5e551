pub mod Laws
pub mod Occurring
pub mod PrefixCursors
pub mod PrefixWords
