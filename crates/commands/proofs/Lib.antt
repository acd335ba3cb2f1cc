-- an output that is as it was
mod Endings
-- what was printed, written in colours
mod Colouring
