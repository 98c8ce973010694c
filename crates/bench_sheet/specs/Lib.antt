-- Sheet: the lines of document 01's bench sheet that it marks P.
pub mod Sheet
