mod Decimals
mod Leading
mod Names
mod Spaced
mod Texts
mod Told
mod Unbroken
