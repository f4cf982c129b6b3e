-- Sizes within sizes.
use Rattle.std.proofs.Common.{ℕ, ◌+◌, ◌*◌, ◌^◌, ◌<◌, ◌≤◌, List, length, arith}
use Rattle.std.proofs.Math.Nat.{mul-le-mul_left}
use Rattle.std.proofs.lemmas.Nat.{mul-le}
use Rattle.pickle_types.specs.declared.integer.IntegerType.{IntegerType}
use Rattle.pickle_meaning.specs.Arithmetic.{with_sign}
use Rattle.text_output.specs.declared.style.Chars.{Chars}
use Rattle.text_output.specs.declared.style.Chars.TheVariants as chars
use Rattle.text_output.specs.declared.style.Numbers.{Numbers}
use Rattle.value_text.specs.Notation.{Notation}
use Rattle.text_bounds.specs.TextRoom.{Size, longest_number, Rooms, quoted_room, with_parts, moved, both, greater, or_text}

pub record Within (a b : Size) : Type 0 where
  pub text : a.text ≤ b.text
  pub lines : a.lines ≤ b.lines

-- what is known of the texts of a notation: which are the longest
pub record AreTexts (notation : Notation) (escape : ℕ) : Type 0 where
  pub integer : (numbers : Numbers) (type : IntegerType) (n : ℕ) → n < 2 ^ type.width
      → length (notation.integer numbers type (with_sign type n))
      ≤ length (notation.integer numbers type (longest_number type))
  pub offset : (numbers : Numbers) (type : IntegerType) (unit n : ℕ) → n < 2 ^ type.width
      → length (notation.offset numbers type unit (with_sign type n))
      ≤ length (notation.offset numbers type unit (longest_number type))
  pub string : (bytes : List ℕ) → length (notation.string bytes) ≤ 2 + escape * length bytes

-- what is known of the rooms of a mode: a value's hold those of its parts, and greater ones hold smaller ones
pub record AreRooms (rooms : Rooms) : Type 0 where
  pub texts : AreTexts rooms.notation rooms.escape
  pub parts : (own parts : ℕ) → parts ≤ rooms.joined own parts
  pub joined : (a b c d : ℕ) → a ≤ c → b ≤ d → rooms.joined a b ≤ rooms.joined c d
  pub line : (start size m widest : ℕ) → start ≤ m → size ≤ widest → rooms.line start size ≤ rooms.line m widest
  pub array : (i count : ℕ) → i ≤ count → rooms.array i ≤ rooms.array count
  pub before : (i count : ℕ) → i ≤ count → rooms.element_before i ≤ rooms.element_before count
  pub moves : (i count : ℕ) → i ≤ count → rooms.element_moves i ≤ rooms.element_moves count
  pub more : (left place from bits count m : ℕ) → left ≤ count → place ≤ count → from ≤ m → bits ≤ m
      → rooms.more left place from bits ≤ rooms.more count count m m

-- a string of at most so many bytes
pub quoted_short : {rooms : Rooms} → AreRooms rooms → (bytes : List ℕ) (most : ℕ) → length bytes ≤ most →
    length (rooms.notation.string bytes) ≤ quoted_room rooms most
quoted_short {rooms} known bytes most le = omega (
  arith,
  known.texts.string bytes,
  mul-le-mul_left {m = length bytes} {n = most} rooms.escape le,
)

pub parts_within : {rooms : Rooms} → AreRooms rooms → (own own' : ℕ) {a b : Size} → own ≤ own' → Within a b →
    Within (with_parts rooms own a) (with_parts rooms own' b)
parts_within known own own' {a} {b} le h = record {
  text = known.joined own a.text own' b.text le h.text;
  lines = known.joined 1 a.lines 1 b.lines (omega arith) h.lines;
}

pub moved_within : (before before' moves moves' : ℕ) {a b : Size} → before ≤ before' → moves ≤ moves' → Within a b →
    Within (moved before moves a) (moved before' moves' b)
moved_within before before' moves moves' {a} {b} le lt h = record {
  text = omega (arith, le, mul-le moves a.lines moves' b.lines lt h.lines, h.text);
  lines = h.lines;
}

pub both_within : {a b c d : Size} → Within a b → Within c d → Within (both a c) (both b d)
both_within h g = record { text = omega (arith, h.text, g.text); lines = omega (arith, h.lines, g.lines) }

pub same_within : {a : Size} → Within a a
same_within = record { text = omega arith; lines = omega arith }

pub then_within : {a b c : Size} → Within a b → Within b c → Within a c
then_within h g = record { text = omega (arith, h.text, g.text); lines = omega (arith, h.lines, g.lines) }

pub later_within : (a : Size) {b c : Size} → Within b c → Within b (both a c)
later_within a h = record { text = omega (arith, h.text); lines = omega (arith, h.lines) }

pub first_within : (c : Size) {a b : Size} → Within a b → Within a (greater b c)
first_within c h = record { text = omega (arith, h.text); lines = omega (arith, h.lines) }

pub rest_within : (b : Size) {a c : Size} → Within a c → Within a (greater b c)
rest_within b h = record { text = omega (arith, h.text); lines = omega (arith, h.lines) }

-- the lines of a text get longer by so much
pub longer_within : (n : ℕ) {a b : Size} → Within a b → a.text + n * a.lines ≤ b.text + n * b.lines
longer_within n {a} {b} h = omega (arith, h.text, mul-le-mul_left {m = a.lines} {n = b.lines} n h.lines)

pub array_within : (chars : Chars) (text array : Size) → Within array (or_text chars text array)
array_within chars.Numbers text array = same_within
array_within chars.Text text array = rest_within text same_within

pub or_within : (chars : Chars) {a b c d : Size} → Within a b → Within c d →
    Within (or_text chars a c) (or_text chars b d)
or_within chars.Numbers h g = g
or_within chars.Text {a} {b} {c} {d} h g =
    record { text = omega (arith, h.text, g.text); lines = omega (arith, h.lines, g.lines) }
