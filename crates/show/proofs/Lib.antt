-- labels fit in their bars
mod Fitting
-- the front of the moments of a picture
mod Fronts
-- the letters of the writes that a wrong read overlaps
mod Lettering
-- what a scene shows of the operations that stand
mod Scenes
-- places with the first step left out, and with one more step
mod Shifted
mod Stepping
-- the laws of the timeline, of a scene's operations
mod Timelines
