use Rattle.std.proofs.Common.{◌≡◌, ℕ, List, Some, map, length, sym, ap, ◌∙◌, arith}
use denote.Bor.{Bor}
use Rattle.std.proofs.lemmas.List.{map_push, length-map}
use Rattle.pickle_types.specs.Numbers.{numbered}
use Rattle.pickle_types.proofs.Named.{named_more, number_new}
use Rattle.pickle_types.proofs.names.Names.add_name.Goals as goal

pub invariant_of-self-2 : goal.invariant_of-self-2
invariant_of-self-2 c =
    let old = c.self.inside.words.items in
    let words = map (λ (w : Bor (List ℕ)). w.now) old in
    let one = length-map old (λ (w : Bor (List ℕ)). w.now) in
    let two = length-map words (λ (word : List ℕ). Some word) in
    let count : c.len-number.result ≡ length old = rw (← c.reserve.ensures.items) (omega arith) in
    let n : c.len-number.result ≡ length (numbered words) = count ∙ sym one ∙ sym two in
    let none = rw (← c.self.view_is) at c.requires.new in
    rw (c.push_reserved.ensures.items, c.reserve.ensures.items, map_push (λ (w : Bor (List ℕ)). w.now) old c.args.word)
    (named_more words c.args.word.now c.self.inside.numbers c.put.new.self c.self.inside.types c.self.invariant none
    (λ w. rw (← n) (c.in_ok-put.ensures.put w)))

pub returns-clause-numbered : goal.returns-clause-numbered
returns-clause-numbered c =
    let old = c.self.inside.words.items in
    let words = map (λ (w : Bor (List ℕ)). w.now) old in
    let one = length-map old (λ (w : Bor (List ℕ)). w.now) in
    let count : c.len-number.result ≡ length old = rw (← c.reserve.ensures.items) (omega arith) in
    let n : length words ≡ c.len-number.result = one ∙ sym count in
    let none = rw (← c.self.view_is) at c.requires.new in
    rw (c.push_reserved.ensures.items, c.reserve.ensures.items, map_push (λ (w : Bor (List ℕ)). w.now) old c.args.word)
    (number_new words c.args.word.now none ∙ ap Some n)
