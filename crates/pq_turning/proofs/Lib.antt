mod Numbered
mod Listed
mod Turned
mod Done
mod Lawful
