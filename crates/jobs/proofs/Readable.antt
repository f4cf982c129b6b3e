-- Which of the installed pickles are read.
use Rattle.std.proofs.Common.{◌≡◌, ◌∙◌, ℕ, ◌+◌, ◌<◌, ◌∷◌, ◌++◌, [], List, Option, Some, None, Result, Ok, Err, length, map, take, drop, get_or, ap, refl, sym, subst}
use Rattle.std.proofs.lemmas.List.{append-nil, drop_more, map-append, take-append-drop, take_more}
use Rattle.identification.specs.declared.prepare.Source.{Source}
use Rattle.jobs.specs.Gives.{InstalledPickle}
use Rattle.jobs.specs.Installed.{AddsRead, AreSources, ReadPickle, first_unread, installed_pickle, read_among, read_before, unread_or}
use Rattle.jobs.specs.declared.fault.FileFault.{FileFault}
use Rattle.jobs.specs.declared.installed.Installed.{Installed}

abbrev or_later : Option FileFault → Option FileFault → Option FileFault
or_later None later = later
or_later (Some fault) later = Some fault

or_moved : (read : Result (List ℕ) FileFault) (a b : Option FileFault) →
    unread_or read (or_later a b) ≡ or_later (unread_or read a) b
or_moved (Ok bytes) a b = refl
or_moved (Err fault) a b = refl

or_found : (read : Result (List ℕ) FileFault) (fault : FileFault) (later : Option FileFault) →
    unread_or read None ≡ Some fault → unread_or read later ≡ Some fault
or_found (Ok bytes) fault later is = cc
or_found (Err other) fault later is = is

-- of pickles and more pickles
unread_more : (xs ys : List InstalledPickle) →
    first_unread (xs ++ ys) ≡ or_later (first_unread xs) (first_unread ys)
unread_more [] ys = refl
unread_more (x ∷ xs) ys =
    ap (unread_or x.pickle) (unread_more xs ys) ∙ or_moved x.pickle (first_unread xs) (first_unread ys)

read_moved : (name : List ℕ) (read : Result (List ℕ) FileFault) (a b : List ReadPickle) →
    read_before name read (a ++ b) ≡ read_before name read a ++ b
read_moved name (Ok bytes) a b = refl
read_moved name (Err fault) a b = refl

read_more : (xs ys : List InstalledPickle) → read_among (xs ++ ys) ≡ read_among xs ++ read_among ys
read_more [] ys = refl
read_more (x ∷ xs) ys =
    ap (read_before x.name x.pickle) (read_more xs ys) ∙ read_moved x.name x.pickle (read_among xs) (read_among ys)

-- one more pickle, as a source
more_sources : (pickles : List ReadPickle) (sources : List Source) (pickle : ReadPickle) (source : Source)
    → AreSources pickles sources → source.name.now ≡ pickle.name → source.pickle.now ≡ pickle.bytes
    → AreSources (pickles ++ pickle ∷ []) (sources ++ source ∷ [])
more_sources [] [] pickle source are name bytes = (name, bytes, tt)
more_sources [] (s ∷ sources) pickle source are name bytes = absurd are
more_sources (p ∷ pickles) [] pickle source are name bytes = absurd are
more_sources (p ∷ pickles) (s ∷ sources) pickle source are name bytes =
    (are.0, are.1, more_sources pickles sources pickle source are.2 name bytes)

-- the installed pickle at a place, after those before it
module _ (xs : List Installed) (k : ℕ) (x : Installed) (lt : k < length xs) (is : x ≡ get_or xs k x) where
  one_more : map installed_pickle (take k xs) ++ installed_pickle x ∷ [] ≡ map installed_pickle (take (k + 1) xs)
  one_more =
      sym (map-append installed_pickle (take k xs) (x ∷ []))
      ∙ ap (λ one. map installed_pickle (take k xs ++ one ∷ [])) is
      ∙ ap (map installed_pickle) (sym (take_more xs k x lt))

  split : map installed_pickle xs ≡
      map installed_pickle (take k xs) ++ (installed_pickle x ∷ map installed_pickle (drop (k + 1) xs))
  split =
      ap (map installed_pickle) (sym (take-append-drop k xs))
      ∙ map-append installed_pickle (take k xs) (drop k xs)
      ∙ ap (λ ys. map installed_pickle (take k xs) ++ map installed_pickle ys) (drop_more xs k x lt)
      ∙ ap (λ one. map installed_pickle (take k xs) ++ (installed_pickle one ∷ map installed_pickle (drop (k + 1) xs)))
      (sym is)

  -- whether it is unread, where none of those before it is
  pub unread_step : first_unread (map installed_pickle (take k xs)) ≡ None
      → first_unread (map installed_pickle (take (k + 1) xs)) ≡ unread_or (installed_pickle x).pickle None
  unread_step none =
      ap first_unread (sym one_more)
      ∙ unread_more (map installed_pickle (take k xs)) (installed_pickle x ∷ [])
      ∙ ap (λ found. or_later found (unread_or (installed_pickle x).pickle None)) none

  pub unread_there : (fault : FileFault) → unread_or (installed_pickle x).pickle None ≡ Some fault
      → first_unread (map installed_pickle (take k xs)) ≡ None
      → first_unread (map installed_pickle xs) ≡ Some fault
  unread_there fault is none =
      ap first_unread split
      ∙ unread_more (map installed_pickle (take k xs)) (installed_pickle x ∷ map installed_pickle (drop (k + 1) xs))
      ∙ ap
      (λ found. or_later found (unread_or (installed_pickle x).pickle
      (first_unread (map installed_pickle (drop (k + 1) xs))))) none
      ∙ or_found (installed_pickle x).pickle fault (first_unread (map installed_pickle (drop (k + 1) xs))) is

  one_source : (sources : List Source) (source : Source) (bytes : List ℕ)
      → (installed_pickle x).pickle ≡ Ok bytes
      → AreSources (read_among (map installed_pickle (take k xs))) sources
      → source.name.now ≡ x.name.items → source.pickle.now ≡ bytes
      → AreSources (read_among (map installed_pickle (take (k + 1) xs))) (sources ++ source ∷ [])
  one_source sources source bytes read are name same =
      subst (λ pickles. AreSources pickles (sources ++ source ∷ []))
      (ap (λ r. read_among (map installed_pickle (take k xs)) ++ read_before x.name.items r []) (sym read)
      ∙ sym (read_more (map installed_pickle (take k xs)) (installed_pickle x ∷ [])) ∙ ap read_among one_more)
      (more_sources (read_among (map installed_pickle (take k xs))) sources _ source are name same)

  no_source : (sources : List Source) (fault : FileFault)
      → (installed_pickle x).pickle ≡ Err fault
      → AreSources (read_among (map installed_pickle (take k xs))) sources
      → AreSources (read_among (map installed_pickle (take (k + 1) xs))) sources
  no_source sources fault read are =
      subst (λ pickles. AreSources pickles sources)
      (sym (append-nil (read_among (map installed_pickle (take k xs))))
      ∙ ap (λ r. read_among (map installed_pickle (take k xs)) ++ read_before x.name.items r []) (sym read)
      ∙ sym (read_more (map installed_pickle (take k xs)) (installed_pickle x ∷ [])) ∙ ap read_among one_more)
      are

  pub sources_step : (before after : List Source) (read : Result (List ℕ) FileFault)
      → (installed_pickle x).pickle ≡ read → AddsRead x.name.items read before after
      → AreSources (read_among (map installed_pickle (take k xs))) before
      → AreSources (read_among (map installed_pickle (take (k + 1) xs))) after
  sources_step before after (Ok bytes) is adds are =
      subst (AreSources (read_among (map installed_pickle (take (k + 1) xs)))) (sym adds.3)
      (one_source before adds.0 bytes is are adds.1 adds.2)
  sources_step before after (Err fault) is same are =
      subst (AreSources (read_among (map installed_pickle (take (k + 1) xs)))) (sym same)
      (no_source before fault is are)
