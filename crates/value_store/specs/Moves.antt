-- How the lengths of a store's vectors change, one thing at a time.
use Rattle.std.specs.Prelude.{◌≡◌, ◌⊎◌, ℕ, ◌+◌, ◌-◌, ◌<◌, ◌≤◌, Bool, true, false, List, [], ◌∷◌, nat_eq, if◌then◌else◌}
use Rattle.value_store.specs.declared.store.slots.Marks.{Marks}
use Rattle.value_store.specs.Packed.{bytes_for}
use Rattle.value_store.specs.Slots.{Held, packs, root_marks, innermost, marks_of, around}
use Rattle.value_store.specs.Takes.{Vector, of_vector}
use Rattle.value_store.specs.Weights.{RejectsWeight, weight}

-- how much a value takes where arrays of numbers are packed
pub record ValueSize : Type 0 where
  pub nodes : ℕ
  pub families : ℕ
  pub links : ℕ
  pub texts : ℕ
  pub bytes : ℕ

-- how much its template takes, where nothing is packed
pub record TemplateSize : Type 0 where
  pub nodes : ℕ
  pub families : ℕ
  pub links : ℕ

pub data Move : Type 0 where
  -- a frame is opened inside the innermost one
  Opens : Move
  -- the innermost frame is given up, with all that it has
  Drops : Move
  -- what the innermost frame has is given up, and the frame stays open
  Clears : Move
  -- a number is one more member of the innermost frame
  Places : Move
  -- an absent field is one more member
  Leaves : Move
  -- the members of the innermost frame become one value, which is one more member of the frame around it
  Closes : Move
  -- a text has one more byte, in the frame of the text
  Writes : Move
  -- the text is one more member of the frame around it
  Ends : Move
  -- a number of so many bits is one more element of an array, where arrays of numbers are packed; else it is placed
  Packs : (width : ℕ) → Move
  -- an array of packed numbers or structs is closed
  ClosesRow : Move
  -- the numbers of the innermost frame become the template of an array of packed structs, which takes their place
  OpensRecords : Move
  -- a struct of so many bytes is one more element of such an array
  PacksRecord : (count : ℕ) → Move
  -- such an array is one more member of the frame around it
  ClosesRecords : Move
  -- the members of the innermost frame, numbers of so many bytes in all, become one more struct of the array around
  -- them, where such arrays are packed; else they become one value
  PacksStruct : (stride : ℕ) → Move
  -- The last member of the innermost frame, a value of this size, becomes one more struct of so many bytes of an array
  -- in that frame, where such arrays are packed; the first makes the array, after its template. Else nothing changes.
  PacksValue : (size : ValueSize) (template : TemplateSize) (stride : ℕ) → Move

-- the lengths of the vectors, and what they were when each open value was opened, the innermost first
pub record State : Type 0 where
  pub now : Marks
  pub frames : List Marks

abbrev pub state_of : Held → State
state_of h = record { now = marks_of h.slots; frames = h.frames }

-- a number is one more node
abbrev pub with_number : Marks → Marks
with_number n = record n { nodes = n.nodes + 1; pending = n.pending + 1 }

-- a frame that began at k has just a text, or an array of packed numbers, and there are so many bytes in all
abbrev pub with_text : (k : Marks) → (bytes : ℕ) → Marks
with_text k bytes = record k { nodes = k.nodes + 1; pending = k.pending + 1; texts = k.texts + 1; bytes = bytes }

-- the members of a frame that began at k became the links of a family
abbrev pub with_links : (k n : Marks) → Marks
with_links k n = record n {
  nodes = n.nodes + 1;
  families = n.families + 1;
  links = n.links + (n.pending - k.pending);
  pending = k.pending + 1;
}

-- the same for the template of an array of packed structs, which has a node and a text
abbrev pub with_template : (k n : Marks) → Marks
with_template k n = record n {
  nodes = n.nodes + 2;
  families = n.families + 1;
  links = n.links + (n.pending - k.pending);
  pending = k.pending + 1;
  texts = n.texts + 1;
}

-- an array that has no element is a family
abbrev pub with_row : (packs : Bool) → (k n : Marks) → Marks
with_row true k n = if nat_eq n.nodes k.nodes then with_links k n else n
with_row false k n = with_links k n

abbrev pub packed_now : (packs : Bool) → (width : ℕ) → (k n : Marks) → Marks
packed_now true width k n = with_text k (n.bytes + bytes_for width)
packed_now false width k n = with_number n

-- the array that began at k has the bytes of its first struct, of so many numbers, and a template
abbrev pub with_structs : (columns stride : ℕ) → (k : Marks) → Marks
with_structs columns stride k = record {
  nodes = k.nodes + (columns + 2);
  families = k.families + 1;
  links = k.links + columns;
  pending = k.pending + 1;
  texts = k.texts + 1;
  bytes = k.bytes + stride;
}

-- one more struct, whose frame began at `own`, of an array that began at k
abbrev pub with_struct : (stride : ℕ) → (k own n : Marks) → Marks
with_struct stride k own n = if nat_eq own.nodes k.nodes then with_structs (n.pending - own.pending) stride k
    else record own { bytes = own.bytes + stride }

-- such a value is one more member
abbrev pub with_value : (size : ValueSize) → Marks → Marks
with_value size n = record {
  nodes = n.nodes + size.nodes;
  families = n.families + size.families;
  links = n.links + size.links;
  pending = n.pending + 1;
  texts = n.texts + size.texts;
  bytes = n.bytes + size.bytes;
}

-- the value that is the one member of a frame has a template after it, and an array that has its bytes is the member
abbrev pub with_first_value : (template : TemplateSize) → (stride : ℕ) → Marks → Marks
with_first_value template stride n = record {
  nodes = n.nodes + template.nodes + 1;
  families = n.families + template.families;
  links = n.links + template.links;
  pending = n.pending;
  texts = n.texts + 1;
  bytes = n.bytes + stride;
}

-- the value after such an array is given up, and the array has its bytes
abbrev pub with_next_value : (size : ValueSize) → (stride : ℕ) → Marks → Marks
with_next_value size stride n = record {
  nodes = n.nodes - size.nodes;
  families = n.families - size.families;
  links = n.links - size.links;
  pending = n.pending - 1;
  texts = n.texts - size.texts;
  bytes = (n.bytes - size.bytes) + stride;
}

-- a frame that began at k has such an array where the value isn't its only member
abbrev pub with_packed_value : (size : ValueSize) → (template : TemplateSize) → (stride : ℕ) → (k n : Marks) → Marks
with_packed_value size template stride k n =
    if nat_eq n.pending (k.pending + 1) then with_first_value template stride n else with_next_value size stride n

-- the most that there is on the way: the nodes of the template wait for their links
abbrev pub with_first_drafted : (template : TemplateSize) → (stride : ℕ) → Marks → Marks
with_first_drafted template stride n =
    record (with_first_value template stride n) { pending = n.pending + template.nodes }

-- the bytes of the value that is given up are given back first; all else of it is still there
abbrev pub with_value_drafted : (size : ValueSize) → (template : TemplateSize) → (stride : ℕ) → (k n : Marks) → Marks
with_value_drafted size template stride k n =
    if nat_eq n.pending (k.pending + 1) then with_first_drafted template stride n
    else record n { bytes = (n.bytes - size.bytes) + stride }

-- what the innermost frame had is now its one member
abbrev pub joined : State → State
joined s = record { now = with_links (innermost s.frames) s.now; frames = s.frames }

abbrev pub settled : State → State
settled s = record { now = with_text (innermost s.frames) s.now.bytes; frames = s.frames }

abbrev pub settled_row : (packs : Bool) → State → State
settled_row packs s = record { now = with_row packs (innermost s.frames) s.now; frames = s.frames }

-- the members of the innermost frame are members of the frame around it
abbrev pub lifted : State → State
lifted s = record { now = s.now; frames = around s.frames }

abbrev pub packed_struct : (packs : Bool) → (stride : ℕ) → State → State
packed_struct true stride s = record {
  now = with_struct stride (innermost (around s.frames)) (innermost s.frames) s.now;
  frames = around s.frames;
}
packed_struct false stride s = lifted (joined s)

-- a value becomes a struct of an array in its frame
abbrev pub packed_value : (packs : Bool) → (size : ValueSize) → (template : TemplateSize) → (stride : ℕ) → State → State
packed_value true size template stride s =
    record { now = with_packed_value size template stride (innermost s.frames) s.now; frames = s.frames }
packed_value false size template stride s = s

-- the most that there is on the way
abbrev pub drafted_value : (packs : Bool) → (size : ValueSize) → (template : TemplateSize) → (stride : ℕ) →
    State → State
drafted_value true size template stride s =
    record { now = with_value_drafted size template stride (innermost s.frames) s.now; frames = s.frames }
drafted_value false size template stride s = s

abbrev pub moved : (packs : Bool) → Move → State → State
moved packs Opens s = record { now = s.now; frames = s.now ∷ s.frames }
moved packs Drops s = record { now = innermost s.frames; frames = around s.frames }
moved packs Clears s = record { now = innermost s.frames; frames = s.frames }
moved packs Places s = record { now = with_number s.now; frames = s.frames }
moved packs Leaves s = record { now = record s.now { pending = s.now.pending + 1 }; frames = s.frames }
moved packs Closes s = lifted (joined s)
moved packs Writes s = record { now = with_text (innermost s.frames) (s.now.bytes + 1); frames = s.frames }
moved packs Ends s = lifted (settled s)
moved packs (Packs width) s = record { now = packed_now packs width (innermost s.frames) s.now; frames = s.frames }
moved packs ClosesRow s = lifted (settled_row packs s)
moved packs OpensRecords s = record { now = with_template (innermost s.frames) s.now; frames = s.frames }
moved packs (PacksRecord count) s = record { now = record s.now { bytes = s.now.bytes + count }; frames = s.frames }
moved packs ClosesRecords s = lifted s
moved packs (PacksStruct stride) s = packed_struct packs stride s
moved packs (PacksValue size template stride) s = packed_value packs size template stride s

-- the most that a move needs on its way
abbrev pub needed : (packs : Bool) → Move → State → State
needed packs Opens s = moved packs Opens s
needed packs Drops s = moved packs Drops s
needed packs Clears s = moved packs Clears s
needed packs Places s = moved packs Places s
needed packs Leaves s = moved packs Leaves s
needed packs Closes s = moved packs Closes s
needed packs Writes s = moved packs Writes s
needed packs Ends s = moved packs Ends s
needed packs (Packs width) s = moved packs (Packs width) s
needed packs ClosesRow s = moved packs ClosesRow s
needed packs OpensRecords s = moved packs OpensRecords s
needed packs (PacksRecord count) s = moved packs (PacksRecord count) s
needed packs ClosesRecords s = moved packs ClosesRecords s
needed packs (PacksStruct stride) s = moved packs (PacksStruct stride) s
needed packs (PacksValue size template stride) s = drafted_value packs size template stride s

-- a call makes this move
abbrev pub Moves : (before after : Held) → Move → Type 0
Moves before after move = state_of after ≡ moved (packs before.room) move (state_of before)

-- the move needs more of some vector than its capacity
abbrev pub CannotMove : Held → Move → Type 0
CannotMove before move = (vector : Vector)
    × (of_vector vector before.capacity < of_vector vector (needed (packs before.room) move (state_of before)).now)

-- or what it leaves weighs more than the store takes
abbrev pub Refuses : Held → Move → Type 0
Refuses before move = CannotMove before move
    ⊎ RejectsWeight before.room (weight (moved (packs before.room) move (state_of before)).now)

-- what an empty store is
abbrev pub no_state : State
no_state = record { now = root_marks; frames = [] }

-- vectors of this capacity hold what is stored
abbrev pub IsWithin : State → (capacity : Marks) → Type 0
IsWithin state capacity = (vector : Vector) → of_vector vector state.now ≤ of_vector vector capacity
