mod Zipped
mod Behind
mod Moved
mod Made
mod Small
mod Before
mod Renewed
