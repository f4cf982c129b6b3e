-- Laws of objects that are written one after another.
use Rattle.std.proofs.Common.{◌≡◌, ℕ, suc, ◌+◌, ◌<◌, ◌≤◌, Bool, true, false, Option, List, [], ◌∷◌, ◌++◌, take, drop, length, map, get_or, refl, sym, ◌∙◌, ap, subst, arith}
use Rattle.std.proofs.Common.{Result, Ok, Err}
use Rattle.std.specs.Prelude.{OnOk, OnErr, nat_eq, codes}
use Rattle.std.specs.Io.KnownBytes.{Appends}
use Rattle.std.proofs.KnownBytes.{Appends-trans, Appends-nil}
use Rattle.std.proofs.Math.Seq.{take-suc}
use Rattle.std.proofs.lemmas.List.{append_assoc, append-nil, drop_all, drop_more, map-append, take-append-drop, take_all}
use Rattle.text_output.specs.Written.{AppendsPart}
use Rattle.text_output.specs.declared.write.WriteFault.{WriteFault}
use Rattle.text_output.proofs.Parts.{part_first, part_next}
use Rattle.value_text.specs.ValueText.{comma}
use Rattle.pickle_tree.specs.Tree.{DeclarationTree}
use Rattle.pickle_types.specs.DeclaredTypes.{Told, told_of, told_as, declared_in}
use Rattle.pickle_types.specs.Names.{Names}
use Rattle.pickle_types.specs.declared.declared_types.DeclaredType.{DeclaredType}
use Rattle.pickle_source.specs.declared.note.Note.{Note}
use Rattle.run_parts.specs.Accepted.{IsAccepted}
use Rattle.run_parts.specs.Outcomes.{EndsAs, writes, cuts}
use Rattle.run_parts.specs.declared.outcome.Failure.TheVariants.{Write}
use Rattle.run_parts.specs.declared.outcome.Outcome.{Outcome}
use Rattle.run_parts.specs.declared.outcome.Outcome.TheVariants.{Done, Failed}
use Rattle.pickle_json.specs.declared.field.FieldTexts.{FieldTexts}
use Rattle.pickle_json.specs.Notes.{note_members}
use Rattle.pickle_json.specs.Checks.{lead, notes_json}
use Rattle.pickle_json.specs.Fields.{no_field, one_field, no_member, member, WritesFields, WritesFieldsPart, WritesMember, WritesMemberPart, field_json}
use Rattle.pickle_json.specs.TypeObjects.{AreTypeObjects, IsRefusedFor, no_object, one_object, WritesObjects, WritesObjectsPart, WritesObject, WritesObjectPart, TypesInJson, told_types, type_start, type_object}

-- ---- fields

pub no_fields : (a : Option (List ℕ)) → WritesFields 0 a a
no_fields a = record { text = []; are = no_field; written = Appends-nil a }

pub field_more : (a b c : Option (List ℕ)) (count : ℕ) (field : FieldTexts) → WritesFields count a b →
    Appends b c (comma (nat_eq count 0) ++ field_json field) → WritesFields (count + 1) a c
field_more a b c count field h g = record {
  text = h.text ++ (comma (nat_eq count 0) ++ field_json field);
  are = one_field field h.are;
  written = Appends-trans a b c h.text (comma (nat_eq count 0) ++ field_json field) h.written g;
}

pub field_cut : (a b c : Option (List ℕ)) (count : ℕ) (field : FieldTexts) → WritesFields count a b →
    AppendsPart b c (comma (nat_eq count 0) ++ field_json field) → WritesFieldsPart a c
field_cut a b c count field h g = record {
  count = count + 1;
  text = h.text ++ (comma (nat_eq count 0) ++ field_json field);
  are = one_field field h.are;
  written = part_next a b c h.text (comma (nat_eq count 0) ++ field_json field) h.written g;
}

pub no_fields_member : (a : Option (List ℕ)) → WritesMember a a
no_fields_member a = record { text = []; is = no_member; written = Appends-nil a }

-- the member, in three parts
pub member_whole : (a b c d : Option (List ℕ)) (count : ℕ) → Appends a b (codes ",\"fields\":[") →
    WritesFields count b c → Appends c d (codes "]") → WritesMember a d
member_whole a b c d count h g k = record {
  text = codes ",\"fields\":[" ++ (g.text ++ codes "]");
  is = member g.are;
  written = Appends-trans a b d (codes ",\"fields\":[") (g.text ++ codes "]") h
      (Appends-trans b c d g.text (codes "]") g.written k);
}

pub member_first : (a b : Option (List ℕ)) → AppendsPart a b (codes ",\"fields\":[") → WritesMemberPart a b
member_first a b h = record {
  text = codes ",\"fields\":[" ++ ([] ++ codes "]");
  is = member no_field;
  written = part_first a b (codes ",\"fields\":[") ([] ++ codes "]") h;
}

pub member_next : (a b c : Option (List ℕ)) → Appends a b (codes ",\"fields\":[") → WritesFieldsPart b c →
    WritesMemberPart a c
member_next a b c h g = record {
  text = codes ",\"fields\":[" ++ (g.text ++ codes "]");
  is = member g.are;
  written =
      part_next a b c (codes ",\"fields\":[") (g.text ++ codes "]") h (part_first b c g.text (codes "]") g.written);
}

pub member_last : (a b c d : Option (List ℕ)) (count : ℕ) → Appends a b (codes ",\"fields\":[") →
    WritesFields count b c → AppendsPart c d (codes "]") → WritesMemberPart a d
member_last a b c d count h g k = record {
  text = codes ",\"fields\":[" ++ (g.text ++ codes "]");
  is = member g.are;
  written =
      part_next a b d (codes ",\"fields\":[") (g.text ++ codes "]") h (part_next b c d g.text (codes "]") g.written k);
}

-- ---- types

pub object_whole : (a b c d : Option (List ℕ)) (told : Told) (text : List ℕ) → Appends a b (type_start told text) →
    WritesMember b c → Appends c d (codes "}\n") → WritesObject told a d
object_whole a b c d told text h g k = record {
  text = text;
  fields = g.text;
  is = g.is;
  written = Appends-trans a b d (type_start told text) (g.text ++ codes "}\n") h
      (Appends-trans b c d g.text (codes "}\n") g.written k);
}

pub object_first : (a b : Option (List ℕ)) (told : Told) (text : List ℕ) → AppendsPart a b (type_start told text) →
    WritesObjectPart told a b
object_first a b told text h = record {
  text = text;
  fields = [];
  is = no_member;
  written = part_first a b (type_start told text) ([] ++ codes "}\n") h;
}

pub object_next : (a b c : Option (List ℕ)) (told : Told) (text : List ℕ) → Appends a b (type_start told text) →
    WritesMemberPart b c → WritesObjectPart told a c
object_next a b c told text h g = record {
  text = text;
  fields = g.text;
  is = g.is;
  written =
      part_next a b c (type_start told text) (g.text ++ codes "}\n") h (part_first b c g.text (codes "}\n") g.written);
}

pub object_last : (a b c d : Option (List ℕ)) (told : Told) (text : List ℕ) → Appends a b (type_start told text) →
    WritesMember b c → AppendsPart c d (codes "}\n") → WritesObjectPart told a d
object_last a b c d told text h g k = record {
  text = text;
  fields = g.text;
  is = g.is;
  written = part_next a b d (type_start told text) (g.text ++ codes "}\n") h
      (part_next b c d g.text (codes "}\n") g.written k);
}

pub no_objects : (a : Option (List ℕ)) → WritesObjects [] a a
no_objects a = record { lines = []; are = no_object; written = Appends-nil a }

pub object_more : (a b c : Option (List ℕ)) (types : List Told) (told : Told) → WritesObjects types a b →
    WritesObject told b c → WritesObjects (types ++ told ∷ []) a c
object_more a b c types told h g = record {
  lines = h.lines ++ type_object told g.text g.fields;
  are = one_object told g.text g.is h.are;
  written = Appends-trans a b c h.lines (type_object told g.text g.fields) h.written g.written;
}

-- objects for more types, whose texts are empty
more_objects : (types rest : List Told) (lines : List ℕ) → AreTypeObjects types lines →
    (more : List ℕ) × AreTypeObjects (types ++ rest) (lines ++ more)
more_objects types [] lines h = (
  [],
  subst (λ t. AreTypeObjects t (lines ++ [])) (sym (append-nil types))
      (subst (AreTypeObjects types) (sym (append-nil lines)) h),
)
more_objects types (told ∷ rest) lines h =
    let object : List ℕ = type_object told [] [] in
    let later = more_objects (types ++ told ∷ []) rest (lines ++ object) (one_object told [] no_member h) in (
      object ++ later.0,
      subst (λ t. AreTypeObjects t (lines ++ (object ++ later.0))) (append_assoc types (told ∷ []) rest)
          (subst (AreTypeObjects ((types ++ told ∷ []) ++ rest)) (append_assoc lines object later.0) later.1),
    )

pub object_cut : (a b c : Option (List ℕ)) (types rest : List Told) (told : Told) → WritesObjects types a b →
    WritesObjectPart told b c → WritesObjectsPart (types ++ told ∷ rest) a c
object_cut a b c types rest told h g =
    let object : List ℕ = type_object told g.text g.fields in
    let later = more_objects (types ++ told ∷ []) rest (h.lines ++ object) (one_object told g.text g.is h.are) in
    record {
      lines = (h.lines ++ object) ++ later.0;
      are =
          subst (λ t. AreTypeObjects t ((h.lines ++ object) ++ later.0)) (append_assoc types (told ∷ []) rest) later.1;
      written = part_first a c (h.lines ++ object) later.0 (part_next a b c h.lines object h.written g.written);
    }

next_is : (n : ℕ) → n + 1 ≡ suc n
next_is n = omega arith

module _ (types : List DeclaredType) (k : ℕ) (x : DeclaredType) (lt : k < length types) where
  step_is : map told_of (take (k + 1) types) ≡ map told_of (take k types) ++ told_of (get_or types k x) ∷ []
  step_is =
      ap (λ n. map told_of (take n types)) (next_is k) ∙ ap (map told_of) (take-suc types k x lt)
      ∙ map-append told_of (take k types) (get_or types k x ∷ [])

  split_is : map told_of types
      ≡ map told_of (take k types) ++ told_of (get_or types k x) ∷ map told_of (drop (k + 1) types)
  split_is =
      ap (map told_of) (sym (take-append-drop k types)) ∙ map-append told_of (take k types) (drop k types)
      ∙ ap (λ ys. map told_of (take k types) ++ map told_of ys) (drop_more types k x lt)

  -- one turn of writing objects
  pub objects_step : (a b c : Option (List ℕ)) → WritesObjects (map told_of (take k types)) a b →
      WritesObject (told_of (get_or types k x)) b c → WritesObjects (map told_of (take (k + 1) types)) a c
  objects_step a b c h g = subst (λ ts. WritesObjects ts a c) (sym step_is)
      (object_more a b c (map told_of (take k types)) (told_of (get_or types k x)) h g)

  pub objects_cut : (a b c : Option (List ℕ)) → WritesObjects (map told_of (take k types)) a b →
      WritesObjectPart (told_of (get_or types k x)) b c → WritesObjectsPart (map told_of types) a c
  objects_cut a b c h g =
      subst (λ ts. WritesObjectsPart ts a c) (sym split_is) (object_cut a b c (map told_of (take k types))
      (map told_of (drop (k + 1) types)) (told_of (get_or types k x)) h g)

pub objects_all : (a b : Option (List ℕ)) (types : List DeclaredType) (done : ℕ) → length types ≤ done →
    WritesObjects (map told_of (take done types)) a b → WritesObjects (map told_of types) a b
objects_all a b types done le h = subst (λ ts. WritesObjects (map told_of ts) a b) (take_all done types le) h

-- a run that wrote the objects of an accepted pickle's types, or a part of them
module _ (pickle : List ℕ) (declarations : List DeclarationTree) (names : Names)
    (accepted : IsAccepted pickle declarations names) (types : List Told)
    (same : types ≡ map told_as (declared_in names)) (out out' : Option (List ℕ)) where
  objects_whole : WritesObjects types out out' → EndsAs (TypesInJson pickle) Done out out'
  objects_whole h = writes h.lines (told_types accepted (subst (λ ts. AreTypeObjects ts h.lines) same h.are)) h.written

  objects_part : WritesObjectsPart types out out' → EndsAs (TypesInJson pickle) (Failed Write) out out'
  objects_part h = cuts h.lines (told_types accepted (subst (λ ts. AreTypeObjects ts h.lines) same h.are)) h.written

  pub objects_end : (ended : Outcome) (written : Result (Unit {0}) WriteFault)
      → OnOk written (WritesObjects types out out') → OnErr written (WritesObjectsPart types out out')
      → OnOk written (ended ≡ Done) → OnErr written (ended ≡ Failed Write) → EndsAs (TypesInJson pickle) ended out out'
  objects_end ended (Ok u) whole part done failed =
      subst (λ o. EndsAs (TypesInJson pickle) o out out') (sym done) (objects_whole whole)
  objects_end ended (Err e) whole part done failed =
      subst (λ o. EndsAs (TypesInJson pickle) o out out') (sym failed) (objects_part part)

-- what was written is no refusal
pub written_unrefused : (pickle : List ℕ) (ended : Outcome) (written : Result (Unit {0}) WriteFault)
    → OnOk written (ended ≡ Done) → OnErr written (ended ≡ Failed Write) → IsRefusedFor pickle ended
written_unrefused pickle ended (Ok u) done failed = subst (IsRefusedFor pickle) (sym done) tt
written_unrefused pickle ended (Err e) done failed = subst (IsRefusedFor pickle) (sym failed) tt

-- ---- notes

-- a writer has the objects of the notes before a place; those from there on are left
pub record HasNotes (pickle : List ℕ) (old new : Option (List ℕ)) (done : ℕ) (notes : List Note) : Type 0 where
  pub taken : List ℕ
  pub appends : Appends old new taken
  pub whole : taken ++ notes_json pickle (nat_eq done 0) (drop done notes) ≡ notes_json pickle true notes

-- the object of a note among others
abbrev pub note_json : (pickle : List ℕ) (first : Bool) → Note → List ℕ
note_json pickle first note = lead first ++ (note_members pickle note ++ codes "}")

pub no_notes : (pickle : List ℕ) (a : Option (List ℕ)) (notes : List Note) → HasNotes pickle a a 0 notes
no_notes pickle a notes = record { taken = []; appends = Appends-nil a; whole = refl }

module _ (pickle : List ℕ) (notes : List Note) (done : ℕ) (note : Note)
    (next : drop done notes ≡ note ∷ drop (done + 1) notes) where
  notes_split : notes_json pickle (nat_eq done 0) (drop done notes)
      ≡ note_json pickle (nat_eq done 0) note ++ notes_json pickle false (drop (done + 1) notes)
  notes_split = ap (notes_json pickle (nat_eq done 0)) next

  pub more_notes : (a b c : Option (List ℕ)) → HasNotes pickle a b done notes →
      Appends b c (note_json pickle (nat_eq done 0) note) → HasNotes pickle a c (done + 1) notes
  more_notes a b c h g =
      let here : List ℕ = note_json pickle (nat_eq done 0) note in
      let later : nat_eq (done + 1) 0 ≡ false = grind arith in
      record {
        taken = h.taken ++ here;
        appends = Appends-trans a b c h.taken here h.appends g;
        whole = rw later (append_assoc h.taken here (notes_json pickle false (drop (done + 1) notes))
            ∙ ap (λ s. h.taken ++ s) (sym notes_split) ∙ h.whole);
      }

  pub part_notes : (a b c : Option (List ℕ)) → HasNotes pickle a b done notes →
      AppendsPart b c (note_json pickle (nat_eq done 0) note) → AppendsPart a c (notes_json pickle true notes)
  part_notes a b c h g =
      subst (AppendsPart a c) (ap (λ s. h.taken ++ s) (sym notes_split) ∙ h.whole)
      (part_next a b c h.taken _ h.appends
      (part_first b c (note_json pickle (nat_eq done 0) note) (notes_json pickle false (drop (done + 1) notes)) g))

pub all_notes : (pickle : List ℕ) (a b : Option (List ℕ)) (notes : List Note) (done : ℕ) → length notes ≤ done →
    HasNotes pickle a b done notes → Appends a b (notes_json pickle true notes)
all_notes pickle a b notes done le h =
    subst (Appends a b) (sym (append-nil h.taken)
    ∙ ap (λ s. h.taken ++ notes_json pickle (nat_eq done 0) s) (sym (drop_all done notes le)) ∙ h.whole) h.appends
