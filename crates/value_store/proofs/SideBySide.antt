-- Integers of a packed struct whose bytes are side by side.
use mathlib.Core.Bool.{not, beq}
use Rattle.std.proofs.Common.{◌≡◌, ℕ, Bool, true, false, suc, ◌+◌, ◌*◌, ◌<◌, ◌≤◌, ◌^◌, inl, List, [], ◌∷◌, Option, Some, None, length, take, drop, map, get_or, refl, sym, ◌∙◌, ap, subst, arith}
use Rattle.std.specs.Prelude.{All, IfSome, slice_get, unwrap_or}
use Rattle.std.proofs.lemmas.List.{drop_more}
use Rattle.std.proofs.lemmas.List.Elements.{All-nil, All-cons}
use Rattle.std.proofs.lemmas.Option.{slice_get-get_or, slice_get_within}
use Rattle.pickle_types.specs.declared.integer.IntegerType.{IntegerType}
use Rattle.pickle_types.specs.Table.{IsWidth}
use Rattle.pickle_meaning.specs.Arithmetic.{with_sign}
use Rattle.pickle_meaning.specs.Values.{Mapped, NoMembers, MemberThen, IntegerLabel, start_of, members_of, gathered}
use Rattle.value_store.specs.declared.store.slots.Node.{Node}
use Rattle.value_store.specs.declared.store.slots.Place.TheVariants as place
use Rattle.value_store.specs.declared.store.slots.Shape.{Shape}
use Rattle.value_store.specs.declared.store.slots.Shape.TheVariants.{Integer, Records, Array}
use Rattle.value_store.specs.Integers.{byte_members, AreBytesOf, AreNumbersAt, AreSideBySide, EndsEarly}
use Rattle.value_store.specs.Lent.{place_value, record_size, record_stride, IsPlace}
use Rattle.value_store.specs.Linked.{node_links, links_from}
use Rattle.value_store.specs.Names.{Names}
use Rattle.value_store.specs.Packed.{bytes_for, bytes_number}
use Rattle.value_store.specs.Records.{instance, instances, number_read}
use Rattle.value_store.specs.Slots.{Slots, opened, part, trees, value_at, number_in, text_bytes, family_links, links_of, parts_in, record_count, number_bits, LinksBelow, IsNumber, IsSound, IsRead}
use Rattle.value_store.proofs.Found.{value-at, opened-value, read-node, node_sound, LinksBelow-at}
use Rattle.value_store.proofs.Grown.{LinksBelow-weaker, length-trees, opened-take}
use Rattle.value_store.proofs.Instances.{is_part, instance-members, instance-start}
use Rattle.value_store.proofs.Linked.{parts_of}
use Rattle.value_store.proofs.RecordsRead.{small-place, row-bytes, row_length, next-within, part_in_array, part-is, number_content, digits_fit, digits_early, digits_below}

-- a link leads to a node that is there
pub link_there : (k : ℕ) (ls : List (Option ℕ)) (i j : ℕ) → LinksBelow k ls → i < length ls →
    get_or ls i None ≡ Some j → j < k
link_there k ls i j below p is =
    let found : slice_get ls i ≡ Some (Some j) = slice_get-get_or ls i None p ∙ ap Some is in
    LinksBelow-at k ls i (Some j) below found

-- types with a sign, or without
pub same_sign : (a b : Bool) → not (beq a b) ≡ false → a ≡ b
same_sign true true e = refl
same_sign true false e = cc
same_sign false true e = cc
same_sign false false e = refl

abbrev made : (start content : ℕ) → Shape → Node
made start content shape = record { start = start; content = content; shape = shape }

-- the links of an array lead to nodes before it
array_below : (s : Slots) (j : ℕ) (n : Node) → IsSound s → slice_get s.nodes j ≡ Some n → n.shape ≡ Array →
    LinksBelow j (family_links s.families s.links n.content)
array_below s j n sound found shape =
    subst (λ x. LinksBelow j (links_of s x n.content)) shape (node_sound s j n sound found).below

pub array_links : (s : Slots) (j : ℕ) (n : Node) → IsSound s → slice_get s.nodes j ≡ Some n → n.shape ≡ Array →
    LinksBelow (length s.nodes) (family_links s.families s.links n.content)
array_links s j n sound found shape =
    let within : j < length s.nodes = slice_get_within s.nodes j n found in
    LinksBelow-weaker j (length s.nodes) (family_links s.families s.links n.content) (omega (arith, within))
    (array_below s j n sound found shape)

-- what comes right after such a number
pub next_early : (s : Slots) (type : IntegerType) (begin content : ℕ) (ls : List (Option ℕ)) (i j : ℕ) (n : Node) →
    i < length ls → get_or ls i None ≡ Some j → slice_get s.nodes j ≡ Some n → IsRead s j n →
    n.start ≡ begin → n.content ≡ content → n.shape ≡ Integer type.width type.signed →
    ((k : ℕ) → IfSome (unwrap_or (slice_get ls k) None) (EndsEarly s)) →
    (begin + type.width < 2 ^ 64) × (content + 1 < 2 ^ 64)
next_early s type begin content ls i j n p link found read start place shape early =
    let is : unwrap_or (slice_get ls i) None ≡ Some j =
    ap (λ o. unwrap_or o None) (slice_get-get_or ls i None p) ∙ link in
    let number : IsNumber n.shape = number_content s n type.width type.signed (inl shape) read in
    let own : EndsEarly s j = subst (λ o. IfSome o (EndsEarly s)) is (early i) in
    let both = own n found number in
    (omega (arith, both.0, start, ap number_bits shape), omega (arith, both.1, place))

-- one more link leads to such a number
pub numbers_next : (s : Slots) (type : IntegerType) (begin content : ℕ) (ls : List (Option ℕ)) (i j : ℕ) (n : Node) →
    i < length ls → get_or ls i None ≡ Some j → slice_get s.nodes j ≡ Some n →
    n.start ≡ begin → n.content ≡ content → n.shape ≡ Integer type.width type.signed →
    AreNumbersAt s type (begin + type.width) (content + 1) (drop (i + 1) ls) →
    AreNumbersAt s type begin content (drop i ls)
numbers_next s type begin content ls i j n p link found start place shape rest =
    let is : drop i ls ≡ Some j ∷ drop (i + 1) ls =
    drop_more ls i None p ∙ ap (λ l. l ∷ drop (i + 1) ls) link in
    let node : n ≡ made begin content (Integer type.width type.signed) =
    ap (λ b. made b n.content n.shape) start ∙ ap (λ k. made begin k n.shape) place ∙ ap (made begin content) shape in
    subst (AreNumbersAt s type begin content) (sym is) (found ∙ ap Some node, rest)

-- a number of at most 8 bits is a byte
byte_of : (w content : ℕ) (row : List ℕ) → w ≤ 8 → 1 ≤ w → content < length row →
    bytes_number (take (bytes_for w) (drop content row)) ≡ get_or row content 0
byte_of w content row most some p =
    let one : bytes_for w ≡ 1 = omega (arith, most, some) in
    let last : get_or row content 0 + 256 * 0 ≡ get_or row content 0 = omega arith in
    ap (λ k. bytes_number (take k (drop content row))) one
    ∙ ap (λ xs. bytes_number (take 1 xs)) (drop_more row content 0 p)
    ∙ last

module _ (names : Names) (s : Slots) (type : IntegerType) where
  -- the value of a node of an integer
  number_node : (j start content : ℕ) →
      slice_get s.nodes j ≡ Some (record { start = start; content = content; shape = Integer type.width type.signed }) →
      value_at names s j
      ≡ Mapped (IntegerLabel (number_in type.signed content) type) start (start + type.width) NoMembers
  number_node j start content found = value-at names s j _ found

  -- it is that of its byte in a struct
  number_byte : (content : ℕ) (row : List ℕ) → type.width ≤ 8 → 1 ≤ type.width → content < length row →
      length row ≤ 2 ^ 16 →
      number_read type (number_in type.signed content) row ≡ with_sign type (get_or row content 0)
  number_byte content row most some p few =
      ap (λ m. with_sign type (bytes_number (take (bytes_for type.width) (drop m row))))
      (small-place type.signed content (omega (arith, p, few)))
      ∙ ap (with_sign type) (byte_of type.width content row most some p)

  -- the members that such links are in a struct
  pub numbers_members : (ls : List (Option ℕ)) (start content shift : ℕ) (row : List ℕ) →
      AreNumbersAt s type start content ls → type.width ≤ 8 → 1 ≤ type.width → content + length ls ≤ length row →
      length row ≤ 2 ^ 16 →
      instances (gathered (map (opened (trees names s)) ls)) shift row
      ≡ byte_members type (start + shift) (part content (length ls) row)
  numbers_members [] start content shift row are most some p few = refl
  numbers_members (None ∷ ls) start content shift row are most some p few = absurd are
  numbers_members (Some j ∷ ls) start content shift row are most some p few =
      let rest =
      numbers_members ls (start + type.width) (content + 1) shift row are.1 most some (omega (arith, p)) few in
      let next : (start + type.width) + shift ≡ (start + shift) + type.width = omega arith in
      let byte = get_or row content 0 in
      let bytes : part content (suc (length ls)) row ≡ byte ∷ part (content + 1) (length ls) row =
      ap (take (suc (length ls))) (drop_more row content 0 (omega (arith, p))) in
      let value = Mapped (IntegerLabel (number_in type.signed content) type) start (start + type.width) NoMembers in
      let found : opened (trees names s) (Some j) ≡ Some value =
      opened-value names s (Some j) (slice_get_within s.nodes j _ are.0)
      ∙ ap Some (number_node j start content are.0) in
      ap (λ o. instances (gathered (o ∷ map (opened (trees names s)) ls)) shift row) found
      ∙ ap (λ n. MemberThen (Mapped (IntegerLabel n type) (start + shift) ((start + type.width) + shift) NoMembers)
      (instances (gathered (map (opened (trees names s)) ls)) shift row))
      (number_byte content row most some (omega (arith, p)) few)
      ∙ ap (λ ms. MemberThen
      (Mapped (IntegerLabel (with_sign type byte) type) (start + shift) ((start + type.width) + shift) NoMembers) ms)
      rest
      ∙ ap (λ at. MemberThen (Mapped (IntegerLabel (with_sign type byte) type) (start + shift) at NoMembers)
      (byte_members type at (part (content + 1) (length ls) row))) next
      ∙ sym (ap (byte_members type (start + shift)) bytes)

-- such links in an array of packed structs
module _ (s : Slots) (a i : ℕ) (own : Node) (stride size : ℕ) (sound : IsSound s)
    (array : slice_get s.nodes a ≡ Some own)
    (is : own.shape ≡ Records stride size) (type : IntegerType) (width : IsWidth type) (most : type.width ≤ 8) where
  abbrev text : List ℕ
  text = text_bytes s.texts s.bytes own.content

  abbrev row : List ℕ
  row = part (stride * i) stride text

  -- each link leads to a part of the struct
  abbrev AreThere : List (Option ℕ) → Type 0
  AreThere ls = (k : ℕ) → IfSome (unwrap_or (slice_get ls k) None) (λ j. IsPlace s (place.Part a i j))

  one : bytes_for type.width ≡ 1
  one = omega (arith, width.some, most)

  number : IsNumber (Integer type.width type.signed)
  number = (width.some, width.most)

  numbers_fit : (ls : List (Option ℕ)) (start content : ℕ) → AreNumbersAt s type start content ls → AreThere ls →
      0 < length ls → content + length ls ≤ stride
  numbers_fit [] start content are there some = absurd (omega (arith, some))
  numbers_fit (None ∷ ls) start content are there some = absurd are
  numbers_fit (Some j ∷ []) start content are there some =
      let n = made start content (Integer type.width type.signed) in
      omega
      (arith, one, digits_fit s a i j own n sound (is_part s a i j (there 0)) array are.0 number stride size is)
  numbers_fit (Some j ∷ l ∷ ls) start content are there some = omega (
    arith,
    numbers_fit (l ∷ ls) (start + type.width) (content + 1) are.1 (λ k. there (suc k)) (omega arith),
  )

  number_below : (j start content : ℕ) →
      slice_get s.nodes j ≡ Some (made start content (Integer type.width type.signed)) →
      IsPlace s (place.Part a i j) → get_or row content 0 < 2 ^ type.width
  number_below j start content found there =
      let n = made start content (Integer type.width type.signed) in
      let p = is_part s a i j there in
      let fits = digits_fit s a i j own n sound p array found number stride size is in
      let within : content < length row =
      omega (arith, one, fits, row_length s a i j own stride size sound p array is) in
      let byte : bytes_number (part (stride * i + content) (bytes_for type.width) text) ≡ get_or row content 0 =
      sym (ap bytes_number (row-bytes stride (stride * i) content (bytes_for type.width) text fits))
      ∙ byte_of type.width content row most width.some within in
      subst (λ b. b < 2 ^ type.width) byte (digits_below s a i j own n sound p array found number stride size is)

  numbers_below : (ls : List (Option ℕ)) (start content : ℕ) → AreNumbersAt s type start content ls → AreThere ls →
      content + length ls ≤ length row → All (λ b. b < 2 ^ type.width) (part content (length ls) row)
  numbers_below [] start content are there fits = All-nil (λ b. b < 2 ^ type.width)
  numbers_below (None ∷ ls) start content are there fits = absurd are
  numbers_below (Some j ∷ ls) start content are there fits =
      let bytes : part content (suc (length ls)) row ≡ get_or row content 0 ∷ part (content + 1) (length ls) row =
      ap (take (suc (length ls))) (drop_more row content 0 (omega (arith, fits))) in
      subst (λ bs. All (λ b. b < 2 ^ type.width) bs) (sym bytes) (All-cons (λ b. b < 2 ^ type.width)
      (get_or row content 0) (part (content + 1) (length ls) row)
      (number_below j start content are.0 (there 0))
      (numbers_below ls (start + type.width) (content + 1) are.1 (λ k. there (suc k)) (omega (arith, fits))))

-- the links of an array in a packed struct lead to parts of the struct
links_there : (s : Slots) (a i j : ℕ) (n : Node) → IsSound s → IsPlace s (place.Part a i j) →
    slice_get s.nodes j ≡ Some n → n.shape ≡ Array → (k : ℕ) →
    IfSome (unwrap_or (slice_get (family_links s.families s.links n.content) k) None)
    (λ c. IsPlace s (place.Part a i c))
links_there s a i j n sound h found shape =
    let own_links : family_links s.families s.links n.content ≡ links_from s j =
    sym (ap (node_links s) found ∙ ap (λ x. links_of s x n.content) shape) in
    (parts_of s (place.Part a i j) (family_links s.families s.links n.content) 0 sound h own_links refl).link_there

part_early : (s : Slots) (a i : ℕ) (own : Node) (stride size : ℕ) → IsSound s → slice_get s.nodes a ≡ Some own →
    own.shape ≡ Records stride size → (o : Option ℕ) →
    IfSome o (λ c. IsPlace s (place.Part a i c)) → IfSome o (EndsEarly s)
part_early s a i own stride size sound array is None h = tt
part_early s a i own stride size sound array is (Some j) h = λ n found number.
    digits_early s a i j own n sound (is_part s a i j h) array found number stride size is

pub links_early : (s : Slots) (a i j : ℕ) (own n : Node) (stride size : ℕ) → IsSound s → IsPlace s (place.Part a i j) →
    slice_get s.nodes a ≡ Some own → slice_get s.nodes j ≡ Some n → own.shape ≡ Records stride size →
    n.shape ≡ Array → (k : ℕ) →
    IfSome (unwrap_or (slice_get (family_links s.families s.links n.content) k) None) (EndsEarly s)
links_early s a i j own n stride size sound h array found is shape k =
    part_early s a i own stride size sound array is
    (unwrap_or (slice_get (family_links s.families s.links n.content) k) None)
    (links_there s a i j n sound h found shape k)

-- an array in a packed struct
module _ (s : Slots) (a i j : ℕ) (own n : Node) (stride size : ℕ) (sound : IsSound s) (h : IsPlace s (place.Part a i j))
    (array : slice_get s.nodes a ≡ Some own) (found : slice_get s.nodes j ≡ Some n)
    (is : own.shape ≡ Records stride size) (shape : n.shape ≡ Array) (type : IntegerType) (content : ℕ)
    (side : AreSideBySide s type n.start content (family_links s.families s.links n.content)) where
  abbrev links : List (Option ℕ)
  links = family_links s.families s.links n.content

  all_there : AreThere s a i own stride size sound array is type side.width side.most links
  all_there = links_there s a i j n sound h found shape

  all_fit : content + length links ≤ stride
  all_fit = numbers_fit s a i own stride size sound array is type side.width side.most links n.start content
      side.numbers all_there side.some

  -- the bytes are there
  pub part_within_row : stride * i + content + length links ≤ length (text_bytes s.texts s.bytes own.content)
  part_within_row =
      let p = is_part s a i j h in
      let t = part_in_array s a i j own stride size sound p array is in
      omega (
        arith,
        all_fit,
        t.content.1.whole,
        next-within stride i (record_count s stride own.content) t.there,
      )

  -- they are those of the elements
  pub part_row : (names : Names) → AreBytesOf type
      (part (stride * i + content) (length links) (text_bytes s.texts s.bytes own.content))
      (place_value names s (place.Part a i j))
  part_row names =
      let p = is_part s a i j h in
      let r = read-node s j n sound found in
      let bytes = text_bytes s.texts s.bytes own.content in
      let row = part (stride * i) stride bytes in
      let v = value_at names s j in
      let whole : length row ≡ stride = row_length s a i j own stride size sound p array is in
      let few = (part_in_array s a i j own stride size sound p array is).few in
      let fits : content + length links ≤ length row = omega (arith, all_fit, whole) in
      let slice : part content (length links) row ≡ part (stride * i + content) (length links) bytes =
      row-bytes stride (stride * i) content (length links) bytes all_fit in
      let value : place_value names s (place.Part a i j) ≡ instance v (size * i) row =
      part-is names s a i j own n array r
      ∙ ap (λ x. instance v (record_size x * i) (part (record_stride x * i) (record_stride x) bytes)) is in
      let start : start_of (place_value names s (place.Part a i j)) ≡ n.start + size * i =
      ap start_of value ∙ instance-start v (size * i) row ∙ ap (λ b. b + size * i) (r.start names) in
      let members : members_of v ≡ gathered (map (opened (trees names s)) links) =
      r.members names
      ∙ ap (λ x. gathered (parts_in s (take j (trees names s)) x n.start n.content)) shape
      ∙ ap gathered (opened-take j (trees names s) links
      (omega (arith, slice_get_within s.nodes j n found, length-trees names s))
      (array_below s j n sound found shape)) in
      record {
        width = side.width;
        most = side.most;
        below = subst (λ bs. All (λ b. b < 2 ^ type.width) bs) slice
            (numbers_below s a i own stride size sound array is type side.width side.most links n.start content
            side.numbers all_there fits);
        members = ap members_of value ∙ instance-members v (size * i) row
            ∙ ap (λ ms. instances ms (size * i) row) members
            ∙ numbers_members names s type links n.start content (size * i) row side.numbers side.most side.width.some
            fits (omega (arith, few, whole))
            ∙ ap (byte_members type (n.start + size * i)) slice
            ∙ sym (ap (λ b. byte_members type b (part (stride * i + content) (length links) bytes)) start);
      }
