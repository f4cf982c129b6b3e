-- Laws of the reported types.
use Rattle.std.proofs.Common.{◌≡◌, ℕ, ◌+◌, ◌<◌, ◌≤◌, List, [], ◌∷◌, ◌++◌, Option, length, drop, map, get_or, refl, sym, ap, subst, ◌∙◌, arith}
use Rattle.std.proofs.lemmas.List.{drop_more, drop_all, drop-map, map-append, append_assoc, append-nil, get_or-map, length-map}
use Rattle.std.proofs.lemmas.List.Elements.{All-get_or}
use Rattle.std.proofs.lemmas.Option.{slice_get-get_or}
use Rattle.std.proofs.lemmas.Simd.{map-map}
use Rattle.pickle_types.specs.Types.{PokeType}
use Rattle.pickle_types.specs.Table.{type_of, open_shape, IsTable}
use Rattle.pickle_types.specs.Built.{IsNamed, AreListed}
use Rattle.pickle_types.specs.declared.declared_types.TypeKind.{TypeKind}
use Rattle.pickle_types.specs.declared.names.Named.{Named}
use Rattle.pickle_types.specs.declared.node.Node.{Node}
use Rattle.pickle_types.specs.declared.node.Shape.{Shape}
use Rattle.pickle_types.specs.declared.node.Shape.TheVariants as shape
use Rattle.pickle_types.specs.DeclaredTypes.{kind_of, shape_kind, Told}
use Rattle.pickle_types.proofs.Tables.{opens}

kind_opened : (at : ℕ → PokeType) (s : Shape) → kind_of (open_shape at s) ≡ shape_kind s
kind_opened at (shape.Integer type) = refl
kind_opened at (shape.Offset type unit) = refl
kind_opened at shape.String = refl
kind_opened at (shape.Array element bound) = refl
kind_opened at (shape.Struct name pinned fields) = refl
kind_opened at (shape.Integral name number fields) = refl
kind_opened at (shape.Union name alternatives) = refl

-- the kind of a node's type is that of its shape
pub kind_at : (nodes : List Node) → IsTable nodes → (i : ℕ) (node : Node) → i < length nodes →
    kind_of (type_of nodes i) ≡ shape_kind (get_or nodes i node).shape
kind_at nodes table i node lt =
    ap kind_of (opens nodes table i (get_or nodes i node) (slice_get-get_or nodes i node lt))
    ∙ kind_opened (type_of nodes) (get_or nodes i node).shape

abbrev row : List ℕ → TypeKind → Option ℕ → Told
row name kind least = (name, kind, least)

pub told_same : (a b : List ℕ) (k l : TypeKind) (v w : Option ℕ) → a ≡ b → k ≡ l → v ≡ w → row a k v ≡ row b l w
told_same a b k l v w e f g = ap (λ name. row name k v) e ∙ ap (λ kind. row b kind v) f ∙ ap (row b l) g

-- the node of a name is one of the table
pub named_inside : (nodes : List Node) (names : List Named) (i : ℕ) (named : Named) → AreListed nodes names →
    i < length names → named ≡ get_or names i named → named.declared.node < length nodes
named_inside nodes names i named all lt e =
    let e' : get_or (map (λ (d : Named). d.declared) names) i named.declared ≡ named.declared =
    get_or-map (λ (d : Named). d.declared) names i named named.declared lt ∙ ap (λ (d : Named). d.declared) (sym e) in
    let within = length-map names (λ (d : Named). d.declared) in
    let is = subst (IsNamed nodes) e'
    (All-get_or (IsNamed nodes) (map (λ (d : Named). d.declared) names) i named.declared (omega (arith, within)) all) in
    is.inside

-- what was reported, and one more element
module _ {X Y Z : Type 0} (f : X → Z) (g : Y → Z) where
  pub one_more : (xs : List X) (x : X) (ys : List Y) (i : ℕ) (y : Y) → i < length ys → y ≡ get_or ys i y → f x ≡ g y →
      map f (xs ++ x ∷ []) ++ map g (drop (i + 1) ys) ≡ map f xs ++ map g (drop i ys)
  one_more xs x ys i y lt e same =
      let split : drop i ys ≡ y ∷ drop (i + 1) ys = drop_more ys i y lt ∙ ap (λ z. z ∷ drop (i + 1) ys) (sym e) in
      ap (λ zs. zs ++ map g (drop (i + 1) ys)) (map-append f xs (x ∷ []))
      ∙ append_assoc (map f xs) (f x ∷ []) (map g (drop (i + 1) ys))
      ∙ ap (λ z. map f xs ++ z ∷ map g (drop (i + 1) ys)) same
      ∙ ap (λ zs. map f xs ++ map g zs) (sym split)

  pub all_told : (xs : List X) (ys : List Y) (i : ℕ) (zs : List Z) → length ys ≤ i →
      map f xs ++ map g (drop i ys) ≡ zs → map f xs ≡ zs
  all_told xs ys i zs le h = sym (append-nil (map f xs))
      ∙ ap (λ rest. map f xs ++ map g rest) (sym (drop_all i ys le)) ∙ h

pub told_behind : {X Y Z : Type 0} (g : Y → Z) (h : X → Y) (n : ℕ) (xs : List X) →
    map (λ x. g (h x)) (drop n xs) ≡ map g (drop n (map h xs))
told_behind g h n xs = sym (map-map g h (drop n xs)) ∙ ap (map g) (sym (drop-map h n xs))
