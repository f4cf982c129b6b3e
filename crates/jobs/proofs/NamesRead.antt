-- Names of a list that are read byte by byte.
use Rattle.std.proofs.Common.{◌≡◌, ◌≢◌, ◌∙◌, ◌<◌, ◌≤◌, ◌+◌, ◌-◌, ◌==◌, ℕ, suc, List, [], ◌∷◌, ◌++◌, Option, Some, None, IfSome, All, length, length-append, slice_index, append_assoc, take, length-take-le, zero-le, rules, inl, inr, refl, sym, ap, subst, ne_eqb, arith}
use Rattle.std.proofs.KnownBytes.{Consumes-kept, Consumes-nil, Consumes-trans}
use Rattle.std.proofs.BufReadLemmas.{drop_through-append, take_through-append}
use Rattle.std.proofs.lemmas.Bool.{cases_Bool, lt-ltb}
use Rattle.std.proofs.lemmas.List.{append-nil, nil_from_length, take_more}
use Rattle.std.proofs.lemmas.List.Elements.{All-append, All-head, All-nil, All-tail}
use Rattle.std.specs.Io.BufRead.{drop_through, first_piece, strip_last, take_through}
use Rattle.std.specs.Io.KnownBytes.{Consumes, IsAtEnd, Keeps}
use Rattle.jobs.specs.Names.{BeginsName, IsNextName, IsRestOfName, most_name, ReadsPiece, ReadsThrough}
use Rattle.jobs.specs.declared.names.PieceEnd.{PieceEnd}
use Rattle.jobs.specs.declared.names.PieceEnd.TheVariants as piece

-- a byte before others, if it isn't 0
strip_more : (x : ℕ) (bytes : List ℕ) → x ≢ 0 → strip_last 0 (x ∷ bytes) ≡ x ∷ strip_last 0 bytes
strip_more x [] other = rw (ne_eqb x 0 other) refl
strip_more x (y ∷ bytes) other =
    let e : length (x ∷ y ∷ bytes) - 1 ≡ suc (length (y ∷ bytes) - 1) = omega arith in
    let p = lt-ltb 0 (length (x ∷ y ∷ bytes)) (omega arith) in
    let q = lt-ltb 0 (length (y ∷ bytes)) (omega arith) in
    rw (e, p, q) (elim (cases_Bool (slice_index (y ∷ bytes) (length (y ∷ bytes) - 1) == 0)) [
      | inl hit ↦ rw hit refl
      | inr miss ↦ rw miss refl
    ])

strip_append : (part bytes : List ℕ) → All (λ byte. byte ≢ 0) part
    → strip_last 0 (part ++ bytes) ≡ part ++ strip_last 0 bytes
strip_append [] bytes within = refl
strip_append (x ∷ part) bytes within =
    strip_more x (part ++ bytes) (All-head (λ byte. byte ≢ 0) x part within)
    ∙ ap (λ rest. x ∷ rest) (strip_append part bytes (All-tail (λ byte. byte ≢ 0) x part within))

-- the first name of some bytes, if its first bytes are these
pub piece_append : (part bytes : List ℕ) → All (λ byte. byte ≢ 0) part
    → first_piece 0 (part ++ bytes) ≡ part ++ first_piece 0 bytes
piece_append part bytes within =
    ap (strip_last 0) (take_through-append 0 part bytes within) ∙ strip_append part (take_through 0 bytes) within

-- bytes up to a byte 0 are the rest of a name
pub rest_ended : (list list' : Option (List ℕ)) (more : List ℕ) → All (λ byte. byte ≢ 0) more
    → Consumes list list' (more ++ 0 ∷ []) → IsRestOfName list more list'
rest_ended None list' more within read = record { is = tt; left = tt }
rest_ended (Some bytes) None more within read = absurd read
rest_ended (Some bytes) (Some left) more within read =
    let split : bytes ≡ more ++ 0 ∷ left = read ∙ append_assoc more (0 ∷ []) left in
    record {
      is = sym (ap (first_piece 0) split ∙ piece_append more (0 ∷ left) within ∙ append-nil more);
      left = ap Some (sym (ap (drop_through 0) split ∙ drop_through-append 0 more (0 ∷ left) within));
    }

-- and so are bytes up to the end of a list
pub rest_at_end : (list list' : Option (List ℕ)) (more : List ℕ) → All (λ byte. byte ≢ 0) more
    → Consumes list list' more → IsAtEnd list' → IsRestOfName list more list'
rest_at_end None list' more within read end = record { is = tt; left = tt }
rest_at_end (Some bytes) None more within read end = absurd read
rest_at_end (Some bytes) (Some left) more within read end =
    let split : bytes ≡ more ++ [] = read ∙ ap (λ rest. more ++ rest) end in
    record {
      is = sym (ap (first_piece 0) split ∙ piece_append more [] within ∙ append-nil more);
      left = ap Some (end ∙ sym (ap (drop_through 0) split ∙ drop_through-append 0 more [] within));
    }

-- bytes that were read, without a byte 0, begin a name
pub begins_name : (list list' : Option (List ℕ)) (part : List ℕ) → All (λ byte. byte ≢ 0) part
    → Consumes list list' part → BeginsName list part
begins_name None list' part within read = record { more = []; is = tt }
begins_name (Some bytes) None part within read = absurd read
begins_name (Some bytes) (Some left) part within read = record {
  more = first_piece 0 left;
  is = ap (first_piece 0) read ∙ piece_append part left within;
}

-- a name whose first bytes were read before
pub name_joined : (list mid list' : Option (List ℕ)) (start more : List ℕ) → All (λ byte. byte ≢ 0) start
    → 0 < length start → Consumes list mid start → IsRestOfName mid more list' → IsNextName list (start ++ more) list'
name_joined None mid list' start more within some read rest = record { some = tt; is = tt; left = tt }
name_joined (Some bytes) None list' start more within some read rest = absurd read
name_joined (Some bytes) (Some left) list' start more within some read rest = record {
  some = omega (arith, some, ap length read, length-append start left);
  is = ap (λ piece. start ++ piece) rest.is ∙ sym (ap (first_piece 0) read ∙ piece_append start left within);
  left = rest.left ∙ ap Some (sym (ap (drop_through 0) read ∙ drop_through-append 0 start left within));
}

pub part_joined : (list mid : Option (List ℕ)) (start part : List ℕ) → All (λ byte. byte ≢ 0) start
    → Consumes list mid start → BeginsName mid part → BeginsName list (start ++ part)
part_joined None mid start part within read begins = record { more = []; is = tt }
part_joined (Some bytes) None start part within read begins = absurd read
part_joined (Some bytes) (Some left) start part within read begins = record {
  more = begins.more;
  is = ap (first_piece 0) read ∙ piece_append start left within
      ∙ ap (λ piece. start ++ piece) begins.is ∙ sym (append_assoc start part begins.more);
}

-- a name of which some bytes are read has a rest
pub record HasRest (list : Option (List ℕ)) (part : List ℕ) : Type 0 where
  pub more : List ℕ
  pub list' : Option (List ℕ)
  pub is : IsRestOfName list (part ++ more) list'

pub has_rest : (list : Option (List ℕ)) (part : List ℕ) → BeginsName list part → HasRest list part
has_rest None part begins = record { more = []; list' = None; is = record { is = tt; left = tt } }
has_rest (Some bytes) part begins = record {
  more = begins.more;
  list' = Some (drop_through 0 bytes);
  is = record { is = sym begins.is; left = refl };
}

-- any list begins with no bytes
pub begins_nothing : (list : Option (List ℕ)) → BeginsName list []
begins_nothing None = record { more = []; is = tt }
begins_nothing (Some bytes) = record { more = first_piece 0 bytes; is = refl }

-- a list that has more is at its end if it is without it
pub end_before : (list list' : Option (List ℕ)) → Consumes list list' [] → IsAtEnd list' → IsAtEnd list
end_before None list' read end = tt
end_before (Some bytes) None read end = absurd read
end_before (Some bytes) (Some left) read end = read ∙ end

-- bytes that were read were there
some_bytes : (list list' : Option (List ℕ)) (read : List ℕ) → Consumes list list' read → 0 < length read
    → IfSome list (λ bytes. 0 < length bytes)
some_bytes None list' read was some = tt
some_bytes (Some bytes) None read was some = absurd was
some_bytes (Some bytes) (Some left) read was some = omega (arith, some, ap length was, length-append read left)

-- a name that ends with a byte 0, or with a list
name_ended : (list list' : Option (List ℕ)) (name : List ℕ) → All (λ byte. byte ≢ 0) name
    → Consumes list list' (name ++ 0 ∷ []) → IsNextName list name list'
name_ended list list' name within read =
    let rest = rest_ended list list' name within read in
    record {
      some = some_bytes list list' (name ++ 0 ∷ []) read (omega (arith, length-append name (0 ∷ [])));
      is = rest.is;
      left = rest.left;
    }

name_at_end : (list list' : Option (List ℕ)) (name : List ℕ) → All (λ byte. byte ≢ 0) name → 0 < length name
    → Consumes list list' name → IsAtEnd list' → IsNextName list name list'
name_at_end list list' name within some read end =
    let rest = rest_at_end list list' name within read end in
    record { some = some_bytes list list' name read some; is = rest.is; left = rest.left }

-- a list at its end stays there
name_last : (list mid list' : Option (List ℕ)) (name : List ℕ) → All (λ byte. byte ≢ 0) name → 0 < length name
    → Consumes list mid name → Consumes mid list' [] → IsAtEnd mid → IsNextName list name list'
name_last None mid list' name within some read none end = record { some = tt; is = tt; left = tt }
name_last (Some bytes) None list' name within some read none end = absurd read
name_last (Some bytes) (Some left) None name within some read none end = absurd none
name_last (Some bytes) (Some left) (Some last) name within some read none end =
    name_at_end (Some bytes) (Some last) name within some (read ∙ ap (λ rest. name ++ rest) none) (sym none ∙ end)

list_not_zero : piece.List ≡ piece.Zero → ⊥
list_not_zero e = search rules

more_not_zero : piece.More ≡ piece.Zero → ⊥
more_not_zero e = search rules

-- of a list that shows nothing, no piece is read
end_shown : (list : Option (List ℕ)) (shown : List ℕ) → IfSome list (λ bytes. length shown ≡ 0 → bytes ≡ [])
    → length shown ≡ 0 → IsAtEnd list
end_shown None shown end none = tt
end_shown (Some bytes) shown end none = end none

pub nothing_shown : (list list' : Option (List ℕ)) (shown name : List ℕ) (most : ℕ)
    → IfSome list (λ bytes. length shown ≡ 0 → bytes ≡ []) → length shown ≡ 0 → Keeps list list'
    → ReadsPiece list list' name name most piece.List
nothing_shown list list' shown name most end none keeps = record {
  added = [];
  is = sym (append-nil name);
  fits = zero-le;
  short = λ e. absurd (list_not_zero e);
  within = All-nil (λ byte. byte ≢ 0);
  read = (Consumes-kept list list list' [] (Consumes-nil list) keeps, end_shown list shown end none, refl);
}

module _ (list list' : Option (List ℕ)) (shown name : List ℕ) (count most : ℕ)
    (within : All (λ byte. byte ≢ 0) (take count shown)) where
  -- a piece is what a list shows before a byte 0
  pub zero_shown : count < most → count < length shown → slice_index shown count ≡ 0
      → Consumes list list' (take (count + 1) shown)
      → ReadsPiece list list' name (name ++ take count shown) most piece.Zero
  zero_shown fits more zero read = record {
    added = take count shown;
    is = refl;
    fits = omega (arith, fits, length-take-le count shown (omega (arith, more)));
    short = λ e. omega (arith, fits, length-take-le count shown (omega (arith, more)));
    within = within;
    read = subst (Consumes list list')
        (take_more shown count 0 more ∙ ap (λ byte. take count shown ++ byte ∷ []) zero) read;
  }

  -- or all that is wanted of it
  pub more_shown : count ≤ most → count ≤ length shown → Consumes list list' (take count shown)
      → ReadsPiece list list' name (name ++ take count shown) most piece.More
  more_shown fits enough read = record {
    added = take count shown;
    is = refl;
    fits = omega (arith, fits, length-take-le count shown enough);
    short = λ e. absurd (more_not_zero e);
    within = within;
    read = read;
  }

-- A name after its pieces.
module _ (list mid list' : Option (List ℕ)) (name name' : List ℕ) (most : ℕ) (end : PieceEnd)
    (within : All (λ byte. byte ≢ 0) name) (read : Consumes list mid name)
    (next : ReadsPiece mid list' name name' most end) where
  -- its bytes
  pub all_within : All (λ byte. byte ≢ 0) name'
  all_within = subst (All (λ byte. byte ≢ 0)) (sym next.is)
      (All-append (λ byte. byte ≢ 0) name next.added within next.within)

  pub piece_ended : end ≡ piece.Zero → IsNextName list name' list'
  piece_ended is =
      let zero : Consumes mid list' (next.added ++ 0 ∷ []) =
      subst (λ end. ReadsThrough end mid list' next.added) is next.read in
      name_ended list list' name' all_within (subst (λ bytes. Consumes list list' (bytes ++ 0 ∷ [])) (sym next.is)
      (subst (Consumes list list') (sym (append_assoc name next.added (0 ∷ [])))
      (Consumes-trans list mid list' name (next.added ++ 0 ∷ []) read zero)))

  pub piece_more : end ≡ piece.More → Consumes list list' name'
  piece_more is =
      let more : Consumes mid list' next.added = subst (λ end. ReadsThrough end mid list' next.added) is next.read in
      subst (Consumes list list') (sym next.is) (Consumes-trans list mid list' name next.added read more)

  pub piece_short : end ≡ piece.Zero → length name + most ≤ most_name + 1 → length name' ≤ most_name
  piece_short is room = omega (arith, room, next.short is, ap length next.is, length-append name next.added)

  pub same_last : end ≡ piece.List → name' ≡ name
  same_last is =
      let last : Consumes mid list' next.added × IsAtEnd mid × (next.added ≡ []) =
      subst (λ end. ReadsThrough end mid list' next.added) is next.read in
      next.is ∙ ap (λ more. name ++ more) last.2 ∙ append-nil name

  pub piece_last : end ≡ piece.List → 0 < length name' → IsNextName list name' list'
  piece_last is some =
      let last : Consumes mid list' next.added × IsAtEnd mid × (next.added ≡ []) =
      subst (λ end. ReadsThrough end mid list' next.added) is next.read in
      subst (λ bytes. IsNextName list bytes list') (sym (same_last is)) (name_last list mid list' name within
      (subst (λ bytes. 0 < length bytes) (same_last is) some) read (subst (Consumes mid list') last.2 last.0) last.1)

  -- none if a list is at its end before it
  pub none_last : end ≡ piece.List → length name' ≡ 0 → IsAtEnd list
  none_last is none =
      let last : Consumes mid list' next.added × IsAtEnd mid × (next.added ≡ []) =
      subst (λ end. ReadsThrough end mid list' next.added) is next.read in
      let empty : name ≡ [] = nil_from_length name (subst (λ bytes. length bytes ≡ 0) (same_last is) none) in
      end_before list mid (subst (Consumes list mid) empty read) last.1
