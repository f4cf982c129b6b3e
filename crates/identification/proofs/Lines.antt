-- Steps of the reading of pickles, and of the ways from formats to those that they are forms of.
use Rattle.std.proofs.Common.{◌≡◌, ℕ, ◌+◌, ◌<◌, ◌++◌, List, [], ◌∷◌, length, get_or, take, Option, Some, refl, sym, ap, subst, ◌∙◌, arith}
use Rattle.std.specs.Prelude.{slice_get, option_map}
use Rattle.std.specs.Prelude.{Vec}
use Rattle.std.specs.declared.alloc.Global.{Global}
use Rattle.std.proofs.lemmas.List.{take_more}
use Rattle.std.proofs.lemmas.Option.{slice_get-get_or}
use Rattle.pickle_heads.specs.Heads.{main_of, identified_of}
use Rattle.pickle_types.specs.declared.table.Table.{Table}
use Rattle.run_parts.specs.Accepted.{IsTableOf}
use Rattle.identification.specs.declared.format.Format.{Format}
use Rattle.identification.specs.declared.format.Line.{Line}
use Rattle.identification.specs.declared.prepare.Source.{Source}
use Rattle.identification.specs.declared.prepare.Unfit.{Unfit}
use Rattle.identification.specs.declared.prepare.Unfit.TheVariants as unfit
use Rattle.identification.specs.Prepared.{AddsFormat, AreLines, AreRead, HasNoParent, IsFormatOf, IsLine, IsParent, Leads, MissesMain, TellsLine, TellsUnfit, TellsUnprepared, is_unfit, type_in}

pub misses_unfit : (pickle : List ℕ) (table : Table) → IsTableOf pickle table → (why : Unfit) →
    MissesMain table (main_of pickle) (type_in (identified_of pickle)) why → TellsUnfit pickle why
misses_unfit pickle table is unfit.NoMainType lacks = (table, is, lacks)
misses_unfit pickle table is unfit.Memory lacks = tt
misses_unfit pickle table is (unfit.Refused refusal) lacks = absurd lacks
misses_unfit pickle table is (unfit.Head fault) lacks = absurd lacks
misses_unfit pickle table is unfit.NoIdentifyingType lacks = absurd lacks
misses_unfit pickle table is unfit.NoForm lacks = absurd lacks
misses_unfit pickle table is unfit.Cycle lacks = absurd lacks
misses_unfit pickle table is unfit.Order lacks = absurd lacks

pub read_more : (sources : List Source) (formats : List Format) (source : Source) (format : Format) →
    AreRead sources formats → IsFormatOf source.name.now source.pickle.now format →
    AreRead (sources ++ source ∷ []) (formats ++ format ∷ [])
read_more [] [] source format are is = (is, tt)
read_more [] (f ∷ fs) source format are is = absurd are
read_more (s ∷ ss) [] source format are is = absurd are
read_more (s ∷ ss) (f ∷ fs) source format are is = (are.0, read_more ss fs source format are.1 is)

pub lines_more : (formats : List Format) (place : ℕ) (lines : List Line) (line : Line) (at : ℕ) →
    AreLines formats place lines → place + length lines ≡ at → IsLine formats at line.places.items →
    AreLines formats place (lines ++ line ∷ [])
lines_more formats place [] line at are e is = (subst (λ p. IsLine formats p line.places.items) (omega arith) is, tt)
lines_more formats place (l ∷ ls) line at are e is =
    (are.0, lines_more formats (place + 1) ls line at are.1 (omega arith) is)

pub leads_more : (formats : List Format) (place : ℕ) (line : List ℕ) (end next : ℕ) → Leads formats place line end →
    IsParent formats end next → Leads formats place (line ++ next ∷ []) next
leads_more formats place [] end next leads is = (subst (λ p. IsParent formats p next) (sym leads) is, refl)
leads_more formats place (p ∷ line) end next leads is = (leads.0, leads_more formats p line end next leads.1 is)

pub leads_line : (formats : List Format) (place : ℕ) (line : List ℕ) (end : ℕ) → Leads formats place line end →
    HasNoParent formats end → IsLine formats place line
leads_line formats place [] end leads is = subst (HasNoParent formats) (sym leads) is
leads_line formats place (p ∷ line) end leads is = (leads.0, leads_line formats p line end leads.1 is)

pub is_there : (formats : List Format) (i : ℕ) (format : Format) → i < length formats →
    format ≡ get_or formats i format → slice_get formats i ≡ Some format
is_there formats i format lt e = slice_get-get_or formats i format lt ∙ ap Some (sym e)

pub form_some : (form : Option (Vec ℕ Global)) (name : Vec ℕ Global) → form ≡ Some name →
    option_map (λ (name : Vec ℕ Global). name.items) form ≡ Some name.items
form_some form name e = ap (option_map (λ (name : Vec ℕ Global). name.items)) e

-- one more pickle is read
pub read_next : (sources : List Source) (i : ℕ) (source d : Source) (before after : List Format) → i < length sources →
    source ≡ get_or sources i d → AreRead (take i sources) before → AddsFormat source before after →
    AreRead (take (i + 1) sources) after
read_next sources i source d before after lt is are adds =
    subst (λ ss. AreRead ss after) (sym (take_more sources i d lt))
    (subst (AreRead (take i sources ++ get_or sources i d ∷ [])) (sym adds.added)
    (read_more (take i sources) before (get_or sources i d) adds.format are
    (subst (λ (s : Source). IsFormatOf s.name.now s.pickle.now adds.format) is adds.is)))

pub pickle_unfit : (sources : List Source) (i : ℕ) (source d : Source) (why : Unfit) → i < length sources →
    source ≡ get_or sources i d → TellsUnfit source.pickle.now why →
    TellsUnprepared sources (record { place = i; why = why })
pickle_unfit sources i source d why lt is tells = is_unfit (record {
  source = source;
  there = slice_get-get_or sources i d lt ∙ ap Some (sym is);
  tells = tells;
})

pub tells_memory : (formats : List Format) (place : ℕ) (why : Unfit) → why ≡ unfit.Memory → TellsLine formats place why
tells_memory formats place why e = subst (TellsLine formats place) (sym e) tt
