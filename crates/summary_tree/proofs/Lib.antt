-- lists: what holds of each two elements, and what a filter and a search give
pub mod Pairs
pub mod Lists
-- a node: a tree of few items is low, and its summary is made of those of its sides
pub mod Low
pub mod Sums
-- items in order: the place of one, the items around one, and the list without one
pub mod Places
pub mod Sides
pub mod Members
-- a tree may cross threads where its items and their summaries may
pub mod Crosses
