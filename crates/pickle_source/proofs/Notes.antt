-- Texts that begin with a place.
use Rattle.std.proofs.Common.{◌≡◌, ◌≤◌, ℕ, List, ◌++◌, length, take}
use Rattle.pickle_source.specs.Places.{TellsPlace, place_line, line_behind, column_behind}

pub tells_place : (pickle called before line_text below text sentence : List ℕ) (at line column : ℕ)
    → at ≤ length pickle → before ≡ take at pickle
    → line ≡ line_behind before → column ≡ column_behind before → line_text ≡ place_line called line column sentence
    → text ≡ line_text ++ below
    → TellsPlace pickle called text
tells_place pickle called before line_text below text sentence at line column inside cut l c told whole =
    record { at = at; inside = inside; sentence = sentence; rest = below; whole = cc }
