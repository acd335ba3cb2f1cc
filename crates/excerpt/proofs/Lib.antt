-- two lists, place by place
mod Pairs
-- the events of registers, one register after another
mod Parts
