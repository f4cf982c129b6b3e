-- Pages of a space, and what a cache keeps of them.
use Rattle.std.proofs.Common.{◌≡◌, ℕ, ◌+◌, ◌-◌, ◌*◌, ◌/◌, ◌%◌, ◌≤◌, inl, inr, Bool, List, [], ◌∷◌, ◌++◌, length, take, drop, Some, Result, Ok, Err, Contains, nat_eq, refl, sym, ap, ◌∙◌, subst, arith}
use Rattle.std.specs.Prelude.{slice_range, slice_get, OnOk, OnErr}
use Rattle.std.specs.Map.{lookup}
use Rattle.std.specs.declared.alloc.Global.{Global}
use Rattle.std.specs.declared.vec.Vec.{Vec}
use Rattle.std.proofs.lemmas.Bool.{eqb-true}
use Rattle.lru.specs.LruCache.{LruCache, lru_cache, promoted, put_entries}
use Rattle.lru.proofs.CallerLemmas.{Contains-lookup, Contains-promoted, Contains-put_entries}
use Rattle.lru.proofs.Splits.{Contains-head}
use Rattle.std.proofs.lemmas.Slice.{take-put_mid}
use Rattle.std.proofs.lemmas.List.{drop-drop}
use Rattle.std.proofs.Math.Seq.{take-add}
use borrow.Rule.Slice.PartMut.{put_mid}
use Rattle.bit_space.specs.SpaceView.{SpaceView, Keeps}
use Rattle.bit_space.specs.Pages.{IsPage, ArePages}
use Rattle.bit_space.proofs.Digits.{range_of_range}

-- what a cache keeps is still right after a call on the space
pub page_kept : {before after : SpaceView} {page : ℕ} {content : List ℕ} → Keeps before after →
    IsPage before page content → IsPage after page content
page_kept {before} {after} {page} {content} k h = record {
  size = rw k.len h.size;
  same = λ bytes e. h.same bytes (sym k.bytes ∙ e);
}

pub pages_kept : {before after : SpaceView} {entries : List (ℕ × Vec ℕ Global)} → Keeps before after →
    ArePages before entries → ArePages after entries
pages_kept k h = record { each = λ page content c. page_kept k (h.each page content c) }

pub page_found : {view : SpaceView} {entries : List (ℕ × Vec ℕ Global)} (page : ℕ) (content : Vec ℕ Global) →
    ArePages view entries → Some content ≡ lookup (nat_eq page) entries → IsPage view page content.items
page_found {view} {entries} page content h e =
    let f = Contains-lookup (nat_eq page) entries content (sym e) in
    subst (λ k. IsPage view k content.items) (sym (eqb-true page f.0 f.2)) (h.each f.0 content f.1)

pub page_newest : {view : SpaceView} {entries : List (ℕ × Vec ℕ Global)} (page : ℕ) (content : Vec ℕ Global) →
    ArePages view entries → Some (page, content) ≡ slice_get entries 0 → IsPage view page content.items
page_newest {view} {entries = []} page content h e = cc
page_newest {view} {entries = entry ∷ entries} page content h e =
    let same : entry ≡ (page, content) = cc in
    h.each page content (subst (λ x. Contains (entry ∷ entries) x) same (Contains-head entry entries))

pub pages_promoted : {view : SpaceView} {entries : List (ℕ × Vec ℕ Global)} (test : ℕ → Bool) → ArePages view entries →
    ArePages view (promoted test entries)
pages_promoted {view} {entries} test h =
    record { each = λ page content c. h.each page content (Contains-promoted test entries (page, content) c) }

put_page : {view : SpaceView} (k page : ℕ) (v content : Vec ℕ Global) → IsPage view k v.items → content ≡ v → page ≡ k →
    IsPage view page content.items
put_page k page v content p e f = rw (e, f) p

put_case : {view : SpaceView} (cache : LruCache ℕ (Vec ℕ Global)) (k : ℕ) (v : Vec ℕ Global) →
    ArePages view cache.entries → IsPage view k v.items → (page : ℕ) (content : Vec ℕ Global) →
    Contains (put_entries nat_eq cache k v) (page, content) → IsPage view page content.items
put_case {view} cache k v h p page content c = elim (Contains-put_entries nat_eq cache k v (page, content) c) [
  | inl was ↦ h.each page content was
  | inr put ↦ put_page k page v content p put.0 (elim put.1 [ inl e ↦ e | inr other ↦ sym (eqb-true k page other.2) ])
]

-- after a page was put into a cache, or found no room
pub pages_put : {view : SpaceView} {X Y : Type 0} (r : Result X Y) (cache after : LruCache ℕ (Vec ℕ Global)) (k : ℕ)
    (v : Vec ℕ Global) → OnOk r (after ≡ lru_cache (put_entries nat_eq cache k v) cache.cap) → OnErr r (after ≡ cache) →
    ArePages view cache.entries → IsPage view k v.items → ArePages view after.entries
pages_put (Ok x) cache after k v e f h p = rw e (record { each = put_case cache k v h p })
pages_put (Err y) cache after k v e f h p = rw f h

-- a part of a page lies inside it
pub part_inside : (view : SpaceView) (at n : ℕ) (content : List ℕ) → IsPage view (at / 4096) content →
    at + n ≤ view.len → at % 4096 + n ≤ 4096 → at % 4096 + n ≤ length content
part_inside view at n content h g l = omega (arith, h.size)

-- and holds the bytes that stand there in the space
pub part_same : (view : SpaceView) (at n : ℕ) (content part bytes : List ℕ) → IsPage view (at / 4096) content →
    at % 4096 + n ≤ length content → part ≡ slice_range content (at % 4096) (at % 4096 + n) → view.bytes ≡ Some bytes →
    part ≡ slice_range bytes at (at + n)
part_same view at n content part bytes h l e k =
    let a : 4096 * (at / 4096) + at % 4096 ≡ at = omega arith in
    let b : 4096 * (at / 4096) + (at % 4096 + n) ≡ at + n = omega arith in
    let r : slice_range (slice_range bytes (4096 * (at / 4096)) (4096 * (at / 4096) + length content)) (at % 4096)
    (at % 4096 + n) ≡ slice_range bytes (4096 * (at / 4096) + at % 4096) (4096 * (at / 4096) + (at % 4096 + n)) =
    range_of_range bytes (4096 * (at / 4096)) (4096 * (at / 4096) + length content)
    (at % 4096) (at % 4096 + n) (omega arith) (omega (arith, l)) in
    let s : slice_range content (at % 4096) (at % 4096 + n) ≡ slice_range
    (slice_range bytes (4096 * (at / 4096)) (4096 * (at / 4096) + length content)) (at % 4096) (at % 4096 + n) =
    ap (λ (c : List ℕ). slice_range c (at % 4096) (at % 4096 + n)) (h.same bytes k) in
    e ∙ s ∙ r ∙ ap (λ (i : ℕ). slice_range bytes i (4096 * (at / 4096) + (at % 4096 + n))) a
    ∙ ap (λ (j : ℕ). slice_range bytes at j) b

-- the same of a page that a cache shows
pub shown_inside : {view now : SpaceView} {page : ℕ} {content shown : List ℕ} (at n : ℕ) → view ≡ now →
    IsPage view page content → page ≡ at / 4096 → shown ≡ content → at + n ≤ now.len → at % 4096 + n ≤ 4096 →
    at % 4096 + n ≤ length shown
shown_inside {view} {now} {page} {content} at n same h e s g l =
    rw s (part_inside now at n content (rw (same, e) at h) g l)

pub shown_same : {view now : SpaceView} {page : ℕ} {content shown part : List ℕ} (at n : ℕ) → view ≡ now
    → IsPage view page content → page ≡ at / 4096 → shown ≡ content → at + n ≤ now.len → at % 4096 + n ≤ 4096
    → part ≡ slice_range shown (at % 4096) (at % 4096 + n) → (bytes : List ℕ) → now.bytes ≡ Some bytes
    → part ≡ slice_range bytes at (at + n)
shown_same {view} {now} {page} {content} {shown} {part} at n same h e s g l p bytes k =
    let q : IsPage now (at / 4096) content = rw (same, e) at h in
    part_same now at n content part bytes q (part_inside now at n content q g l) (rw s at p) k

-- the first bytes are those of a space from a place on
pub record Filled (view : SpaceView) (at done : ℕ) (into : List ℕ) : Type 0 where
  pub same : (bytes : List ℕ) → view.bytes ≡ Some bytes → take done into ≡ slice_range bytes at (at + done)

two_ranges : (bytes : List ℕ) (at done count : ℕ) →
    slice_range bytes at (at + done) ++ slice_range bytes (at + done) (at + done + count)
    ≡ slice_range bytes at (at + (done + count))
two_ranges bytes at done count =
    let a : at + done - at ≡ done = omega arith in
    let b : at + done + count - (at + done) ≡ count = omega arith in
    let c : at + (done + count) - at ≡ done + count = omega arith in
    rw (a, b, c, take-add done count (drop at bytes), drop-drop done at bytes) refl

-- one more part
pub filled_more : {before now : SpaceView} (at done k n : ℕ) (into part : List ℕ) → Keeps before now
    → Filled before at done into → done ≤ length into → length part ≡ n
    → ((bytes : List ℕ) → now.bytes ≡ Some bytes → part ≡ slice_range bytes (at + done) (at + done + n)) → (count : ℕ)
    → n ≡ count → Filled before at (done + count) (put_mid done k into part)
filled_more {before} {now} at done k n into part kept h l s g count e = record {
  same = λ bytes f. rw (sym e) (take-put_mid done k into part (done + n) (omega (arith, s)) l
      ∙ rw (h.same bytes f, g bytes (kept.bytes ∙ f)) (two_ranges bytes at done n));
}
