mod Lists
mod Marked
mod Worlds
mod Released
mod Steps
mod Making
mod Coming
