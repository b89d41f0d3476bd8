mod Drawn
mod Drafts
