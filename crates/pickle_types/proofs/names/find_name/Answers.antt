use Rattle.std.proofs.Common.{◌≡◌, ℕ, List, Some, None, map, sym, ap, ◌∙◌}
use denote.Bor.{Bor}
use Rattle.std.specs.Option.{option_copied}
use Rattle.indexmap.specs.IndexMap.{values}
use Rattle.pickle_types.specs.Built.{IsNamed, declared_as}
use Rattle.pickle_types.specs.Numbers.{number_in, in_map}
use Rattle.pickle_types.proofs.Looks.{found_is, found_named}
use Rattle.pickle_types.proofs.Named.{named_none, named_some}
use Rattle.pickle_types.proofs.names.find_name.Goals as goal

pub returns-in_err-number-clause-found : goal.returns-in_err-number-clause-found
returns-in_err-number-clause-found c nodes =
    let types = c.names.inside.types in
    let words = map (λ (w : Bor (List ℕ)). w.now) c.names.inside.words.items in
    let word = c.args.word.now in
    let none : number_in words word ≡ None =
    rw (← c.names.view_is) at (sym c.number_of.ensures ∙ c.in_err-number.was) in
    rw (c.from_residual.ensures, ← c.names.view_is) (found_is word nodes None (values types)
    (sym (named_none words c.names.inside.numbers types c.names.invariant word none)))

pub returns-in_err-named-clause-found : goal.returns-in_err-named-clause-found
returns-in_err-named-clause-found c nodes =
    let types = c.names.inside.types in
    let words = map (λ (w : Bor (List ℕ)). w.now) c.names.inside.words.items in
    let word = c.args.word.now in
    let number = c.in_ok-number.number in
    let is : number_in words word ≡ Some number =
    rw (← c.names.view_is) at (sym c.number_of.ensures ∙ c.in_ok-number.was) in
    let kept : in_map types number ≡ None = sym c.get.ensures.value ∙ ap option_copied c.in_err-named.was in
    rw (c.from_residual-in_err-named.ensures, ← c.names.view_is) (found_is word nodes None (values types)
    (sym (named_some words c.names.inside.numbers types c.names.invariant word number None is kept)))

pub returns-clause-found : goal.returns-clause-found
returns-clause-found c nodes =
    let types = c.names.inside.types in
    let words = map (λ (w : Bor (List ℕ)). w.now) c.names.inside.words.items in
    let word = c.args.word.now in
    let number = c.in_ok-number.number in
    let d = c.in_ok-named.named.now in
    let is : number_in words word ≡ Some number =
    rw (← c.names.view_is) at (sym c.number_of.ensures ∙ c.in_ok-number.was) in
    let kept : in_map types number ≡ Some d = sym c.get.ensures.value ∙ ap option_copied c.in_ok-named.was in
    rw (← c.names.view_is) (found_is word nodes (Some d.declared) (values types)
    (sym (named_some words c.names.inside.numbers types c.names.invariant word number (Some d) is kept)))

pub returns-clause-named : goal.returns-clause-named
returns-clause-named c nodes named =
    let types = c.names.inside.types in
    let words = map (λ (w : Bor (List ℕ)). w.now) c.names.inside.words.items in
    let word = c.args.word.now in
    let number = c.in_ok-number.number in
    let d = c.in_ok-named.named.now in
    let is : number_in words word ≡ Some number =
    rw (← c.names.view_is) at (sym c.number_of.ensures ∙ c.in_ok-number.was) in
    let kept : in_map types number ≡ Some d = sym c.get.ensures.value ∙ ap option_copied c.in_ok-named.was in
    let found : declared_as word (values types) ≡ Some d.declared =
    named_some words c.names.inside.numbers types c.names.invariant word number (Some d) is kept in
    rw found at (found_named word (IsNamed nodes) (values types) (rw (← c.names.view_is) at named))

pub returns-in_err-number-clause-is : goal.returns-in_err-number-clause-is
returns-in_err-number-clause-is c =
    let types = c.names.inside.types in
    let words = map (λ (w : Bor (List ℕ)). w.now) c.names.inside.words.items in
    let word = c.args.word.now in
    let none : number_in words word ≡ None =
    rw (← c.names.view_is) at (sym c.number_of.ensures ∙ c.in_err-number.was) in
    rw (c.from_residual.ensures, ← c.names.view_is)
    (sym (named_none words c.names.inside.numbers types c.names.invariant word none))

pub returns-in_err-named-clause-is : goal.returns-in_err-named-clause-is
returns-in_err-named-clause-is c =
    let types = c.names.inside.types in
    let words = map (λ (w : Bor (List ℕ)). w.now) c.names.inside.words.items in
    let word = c.args.word.now in
    let number = c.in_ok-number.number in
    let is : number_in words word ≡ Some number =
    rw (← c.names.view_is) at (sym c.number_of.ensures ∙ c.in_ok-number.was) in
    let kept : in_map types number ≡ None = sym c.get.ensures.value ∙ ap option_copied c.in_err-named.was in
    rw (c.from_residual-in_err-named.ensures, ← c.names.view_is)
    (sym (named_some words c.names.inside.numbers types c.names.invariant word number None is kept))

pub returns-clause-is : goal.returns-clause-is
returns-clause-is c =
    let types = c.names.inside.types in
    let words = map (λ (w : Bor (List ℕ)). w.now) c.names.inside.words.items in
    let word = c.args.word.now in
    let number = c.in_ok-number.number in
    let d = c.in_ok-named.named.now in
    let is : number_in words word ≡ Some number =
    rw (← c.names.view_is) at (sym c.number_of.ensures ∙ c.in_ok-number.was) in
    let kept : in_map types number ≡ Some d = sym c.get.ensures.value ∙ ap option_copied c.in_ok-named.was in
    rw (← c.names.view_is)
    (sym (named_some words c.names.inside.numbers types c.names.invariant word number (Some d) is kept))
