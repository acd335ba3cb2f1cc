-- `choice.rt`: an operation that is asked for is shown, and each operation is shown or counted
mod Choosing
-- `axis.rt`: each operation that is left out is counted once, between marks
mod Counting
-- `row.rt`: the rows still fit when one more is begun
mod Cutting
-- `axis.rt`: a search finds each mark, and an end is left of a beginning exactly where its operation precedes
mod InOrder
-- lists: which element is at an index of a list with one more; what is picked of a list in order is in order
mod Loops
mod Picking
-- `place.rt`: the places are spaced, kept and tight when one more is put after them
mod Placing
-- `seat.rt`: the seats of a lane are in turn when one more operation takes one
mod Seating
