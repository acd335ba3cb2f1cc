-- bytes: a table of 256 agrees with a definition; stretches and Texts are as long as the grammar has them (`bytes.rt`)
pub mod Tables
pub mod Stretches
-- tokens: `lexed` finds the grammar's tokens, each way; what each next byte makes of a part (`token.rt`, `resume.rt`)
pub mod Lexing
pub mod Resuming
-- derivations: they hold with other bytes after them too; what is open after each step; each is the one run of tokens
pub mod Places
pub mod Steps
pub mod Runs
-- one division and one first fault: what is open can be completed to a text, and after a refused byte it cannot
pub mod Unique
pub mod Ended
pub mod Viable
-- reading: what each token says of the input; the loop over a chunk; from where bytes are still needed (`tokens.rt`)
pub mod Reading
pub mod Leading
pub mod Keeping
pub mod Within
-- chunks: a splitter's answers hold of each input that goes on so; a prefix has the first elements of the whole
pub mod Splitting
pub mod SoFar
pub mod Prefixes
-- elements: ways over them by tokens alone; their parts, pairs, fields and integers; what is lent is an element
pub mod Skipping
pub mod Views
pub mod Integers
pub mod Lent
-- maps read in one pass are the grammar's; an element that is known is taken as its bytes would be
pub mod FlatMaps
pub mod Known
