-- What the proof of `behind` cites.
mod MarkLaws
