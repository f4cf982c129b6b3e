-- A plan: a tree of steps, values made and reads. It branches at each read on the number that was read.
use Rattle.std.specs.Prelude.{ℕ, zero, suc, ◌+◌, ◌<◌, ◌≤◌, ◌^◌, List, Result, Ok, Err}
use Rattle.bit_space.specs.declared.order.Order.{Order}
use Rattle.pickle_meaning.specs.Numbers.{number_at}
use Rattle.pickle_meaning.specs.Values.{Levels, opened}
use Rattle.mapping_plans.specs.Rows.{Row, Apart, Numbers, Records, Values, stride_of}
use Rattle.value_store.specs.Moves.{Move, Opens, Drops, Clears, Places, Leaves, Closes, Writes, Ends, Packs, ClosesRow, OpensRecords, PacksRecord, ClosesRecords, PacksStruct, PacksValue}

pub data Plan (A : Type 0) : Type 0 where
  Ended : (result : A) → Plan A
  Tick : (rest : Plan A) → Plan A
  -- So many values were made, what is stored changed in this way, and these frames are stored now.
  Made : (count : ℕ) (move : Move) (levels : Levels) (rest : Plan A) → Plan A
  Read : (place width : ℕ) (order : Order) (rest : ℕ → Plan A) → Plan A

-- one plan, and then another that depends on its result
abbrev pub and_then : {A B : Type 0} → Plan A → (A → Plan B) → Plan B
and_then (Ended a) f = f a
and_then (Tick p) f = Tick (and_then p f)
and_then (Made count move levels p) f = Made count move levels (and_then p f)
and_then (Read place width order rest) f = Read place width order (λ n. and_then (rest n) f)

-- a result after so many steps
abbrev pub after : {A : Type 0} → ℕ → A → Plan A
after zero a = Ended a
after (suc n) a = Tick (after n a)

-- continues with a value; a fault is the fault of the whole
abbrev pub on_value : {A B F : Type 0} → (A → Plan (Result B F)) → Result A F → Plan (Result B F)
on_value f (Ok a) = f a
on_value f (Err e) = Ended (Err e)

-- one plan, and then another where it gives a value
unfoldable pub then_ok : {A B F : Type 0} → Plan (Result A F) → (A → Plan (Result B F)) → Plan (Result B F)
then_ok p f = and_then p (on_value f)

-- a frame that was closed with a value; after a fault it is given up, so that these frames are left
abbrev pub leave_frame : {A F : Type 0} → Levels → Result A F → Plan (Result A F)
leave_frame outer (Ok a) = Ended (Ok a)
leave_frame outer (Err e) = Made 0 Drops outer (Ended (Err e))

-- what is built in a frame of its own, which it closes with a value
unfoldable pub framed : {A F : Type 0} → Levels → Plan (Result A F) → Plan (Result A F)
framed outer p = Made 0 Opens (opened outer) (and_then p (leave_frame outer))

-- a number is packed
abbrev pub as_number : (width : ℕ) → Move → Move
as_number width Opens = Opens
as_number width Drops = Drops
as_number width Clears = Clears
as_number width Places = Packs width
as_number width Leaves = Leaves
as_number width Closes = Closes
as_number width Writes = Writes
as_number width Ends = Ends
as_number width (Packs other) = Packs other
as_number width ClosesRow = ClosesRow
as_number width OpensRecords = OpensRecords
as_number width (PacksRecord count) = PacksRecord count
as_number width ClosesRecords = ClosesRecords
as_number width (PacksStruct stride) = PacksStruct stride
as_number width (PacksValue size template stride) = PacksValue size template stride

-- a struct of numbers, of so many bytes in all, is packed
abbrev pub as_struct : (stride : ℕ) → Move → Move
as_struct stride Opens = Opens
as_struct stride Drops = Drops
as_struct stride Clears = Clears
as_struct stride Places = Places
as_struct stride Leaves = Leaves
as_struct stride Closes = PacksStruct stride
as_struct stride Writes = Writes
as_struct stride Ends = Ends
as_struct stride (Packs width) = Packs width
as_struct stride ClosesRow = ClosesRow
as_struct stride OpensRecords = OpensRecords
as_struct stride (PacksRecord count) = PacksRecord count
as_struct stride ClosesRecords = ClosesRecords
as_struct stride (PacksStruct other) = PacksStruct other
as_struct stride (PacksValue size template other) = PacksValue size template other

-- what is done for an element of an array that is kept in such a way
abbrev pub packed : Row → Move → Move
packed Apart move = move
packed (Numbers width) move = as_number width move
packed (Records widths) move = as_struct (stride_of widths) move
packed (Values stride) move = move

-- the same plan, with those moves
abbrev pub as_row : {A : Type 0} → Row → Plan A → Plan A
as_row row (Ended a) = Ended a
as_row row (Tick p) = Tick (as_row row p)
as_row row (Made count move levels p) = Made count (packed row move) levels (as_row row p)
as_row row (Read place width order rest) = Read place width order (λ n. as_row row (rest n))

-- the plan of an element that is kept in such a way
abbrev pub in_row : {A : Type 0} → Row → Plan A → Plan A
in_row Apart p = p
in_row (Numbers width) p = as_row (Numbers width) p
in_row (Records widths) p = as_row (Records widths) p
in_row (Values stride) p = p

-- on a file's bits: the result, the steps and the values made
abbrev pub result_of : {A : Type 0} → List ℕ → Plan A → A
result_of bits (Ended a) = a
result_of bits (Tick p) = result_of bits p
result_of bits (Made count move levels p) = result_of bits p
result_of bits (Read place width order rest) = result_of bits (rest (number_at bits order place width))

abbrev pub steps_of : {A : Type 0} → List ℕ → Plan A → ℕ
steps_of bits (Ended a) = 0
steps_of bits (Tick p) = 1 + steps_of bits p
steps_of bits (Made count move levels p) = steps_of bits p
steps_of bits (Read place width order rest) = steps_of bits (rest (number_at bits order place width))

abbrev pub made_of : {A : Type 0} → List ℕ → Plan A → ℕ
made_of bits (Ended a) = 0
made_of bits (Tick p) = made_of bits p
made_of bits (Made count move levels p) = count + made_of bits p
made_of bits (Read place width order rest) = made_of bits (rest (number_at bits order place width))

-- the plan takes at most c steps, whatever it reads
pub data AtMost {A : Type 0} : Plan A → ℕ → Type 0 where
  ended : {a : A} {c : ℕ} → AtMost (Ended a) c
  ticked : {p : Plan A} {d : ℕ} (c : ℕ) → 1 + c ≤ d → AtMost p c → AtMost (Tick p) d
  noted : {count : ℕ} {move : Move} {levels : Levels} {p : Plan A} {c : ℕ} → AtMost p c →
      AtMost (Made count move levels p) c
  given : {place width : ℕ} {order : Order} {rest : ℕ → Plan A} {c : ℕ} → ((n : ℕ) → AtMost (rest n) c) →
      AtMost (Read place width order rest) c

-- Whatever the plan reads: `ahead` steps were taken before it for which no value is made yet. At no time are more
-- values made than steps taken, and at least `left` such steps are left at its end.
pub data MadeWithin {A : Type 0} : Plan A → (ahead left : ℕ) → Type 0 where
  made_ended : {a : A} {ahead left : ℕ} → left ≤ ahead → MadeWithin (Ended a) ahead left
  made_tick : {p : Plan A} {ahead left : ℕ} → MadeWithin p (ahead + 1) left → MadeWithin (Tick p) ahead left
  made_more : {count : ℕ} {move : Move} {levels : Levels} {p : Plan A} {ahead left : ℕ} (rest : ℕ) →
      count + rest ≤ ahead → MadeWithin p rest left → MadeWithin (Made count move levels p) ahead left
  made_read : {place width : ℕ} {order : Order} {rest : ℕ → Plan A} {ahead left : ℕ} →
      ((n : ℕ) → MadeWithin (rest n) ahead left) → MadeWithin (Read place width order rest) ahead left

-- whatever the plan reads: `made` values were made before it, and the size of its result is at most the number of
-- values made at its end
pub data Counts {A : Type 0} (size : A → ℕ) : Plan A → (made : ℕ) → Type 0 where
  counted : {a : A} {made : ℕ} → size a ≤ made → Counts size (Ended a) made
  count_tick : {p : Plan A} {made : ℕ} → Counts size p made → Counts size (Tick p) made
  count_made : {count : ℕ} {move : Move} {levels : Levels} {p : Plan A} {made : ℕ} → Counts size p (made + count) →
      Counts size (Made count move levels p) made
  count_read : {place width : ℕ} {order : Order} {rest : ℕ → Plan A} {made : ℕ} →
      ((n : ℕ) → Counts size (rest n) made) → Counts size (Read place width order rest) made

-- whatever the plan reads, M holds of the frames that are stored, and Q of each result
pub data Always {A : Type 0} (M : Levels → Type 0) (Q : A → Type 0) : Plan A → Type 0 where
  result : {a : A} → Q a → Always M Q (Ended a)
  after_tick : {p : Plan A} → Always M Q p → Always M Q (Tick p)
  after_made : {count : ℕ} {move : Move} {levels : Levels} {p : Plan A} → M levels → Always M Q p →
      Always M Q (Made count move levels p)
  after_read : {place width : ℕ} {order : Order} {rest : ℕ → Plan A} → ((n : ℕ) → n < 2 ^ width → Always M Q (rest n)) →
      Always M Q (Read place width order rest)
