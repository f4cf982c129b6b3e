-- Rows of small pickles: their tokens and places, the tokens that a tree shows, and what is refused.
use Rattle.std.proofs.Common.{◌≡◌, ◌+◌, ◌<◌, ℕ, true, Result, Ok, Err, List, [], ◌∷◌, refl, sym, ap, ◌∙◌, arith}
use Rattle.std.specs.Prelude.{codes}
use Rattle.pickle_syntax.specs.declared.token.Sign.TheVariants as sign
use Rattle.pickle_syntax.specs.declared.token.Word.TheVariants as word
use Rattle.pickle_syntax.specs.declared.lexer.fault.LexFaultKind.TheVariants.{BadByte, Unclosed}
use Rattle.pickle_tree.specs.declared.tree.Infix.TheVariants as infix_op
use Rattle.pickle_syntax.specs.Tokens.{Token, Reserved, Named, Mark}
use Rattle.pickle_tree.specs.Tree.{Tree, Literal, Between, Plain, Called, DeclarationTree}
use Rattle.pickle_syntax.specs.Bytes.{Fault}
use Rattle.pickle_syntax.specs.Signs.{double_sign, single_sign, sign_piece}
use Rattle.pickle_syntax.specs.Texts.{part_at, text_from}
use Rattle.pickle_syntax.specs.Words.{reserved_word, opener_at, attribute_at, word_piece}
use Rattle.pickle_syntax.specs.Lexing.{piece_at, lexed_from, lexed}
use Rattle.pickle_syntax.specs.Pieces.{IsLexFault}
use Rattle.pickle_syntax.specs.Levels.{IsWellBracketed}
use Rattle.pickle_syntax.specs.Show.{show, show_pickle}
use Rattle.pickle_syntax.specs.Pickles.{IsPickleOf}
use Rattle.pickle_syntax.proofs.LexedLaws.{faults_are}

-- a name of a type, and its alias
abbrev alias : List DeclarationTree
alias = record { name = codes "A"; form = Plain (Called (codes "byte")) } ∷ []

abbrev alias_tokens : List Token
alias_tokens =
    Reserved word.Type ∷ Named (codes "A") ∷ Mark sign.Assign ∷ Named (codes "byte") ∷ Mark sign.Semicolon ∷ []

alias_cut : lexed (codes "type A = byte;") ≡ Ok (alias_tokens, (0, 4) ∷ (5, 6) ∷ (7, 8) ∷ (9, 13) ∷ (13, 14) ∷ [])
unfolding lexed lexed_from piece_at word_piece reserved_word opener_at attribute_at sign_piece double_sign single_sign
alias_cut = refl

alias_shown : alias_tokens ≡ show_pickle alias
alias_shown = refl

alias_is : IsPickleOf alias_tokens alias
alias_is = record { shown = refl; bracketed = (tt, tt); within = (omega arith, (tt, omega arith, tt)) }

abbrev signs_in : List Token → ℕ
signs_in [] = 0
signs_in (Mark s ∷ rest) = 1 + signs_in rest
signs_in (token ∷ rest) = signs_in rest

apart : (m n : ℕ) → m < n → m ≡ n → ⊥
apart m n less e = absurd (omega (arith, less, e))

-- a declaration that lacks its `;`, and none at all, are not that pickle
no_semicolon : IsPickleOf (Reserved word.Type ∷ Named (codes "A") ∷ Mark sign.Assign ∷ Named (codes "byte") ∷ [])
    alias → ⊥
no_semicolon p = apart 1 2 (omega arith) (ap signs_in p.shown)

nothing_declared : IsPickleOf alias_tokens [] → ⊥
nothing_declared p = apart 0 2 (omega arith) (sym (ap signs_in p.shown))

-- 1 * 2 + 3 has one tree: the sum of a product
abbrev literal : ℕ → Tree
literal n = Literal (record { value = n; width = 32; signed = true })

abbrev sum_last : Tree
sum_last = Between infix_op.Add (Between infix_op.Multiply (literal 1) (literal 2)) (literal 3)

abbrev product_last : Tree
product_last = Between infix_op.Multiply (literal 1) (Between infix_op.Add (literal 2) (literal 3))

same_tokens : show sum_last ≡ show product_last
same_tokens = refl

sum_last_is : IsWellBracketed sum_last
sum_last_is = ((tt, tt, omega arith, omega arith), tt, omega arith, omega arith)

product_last_is_not : IsWellBracketed product_last → ⊥
product_last_is_not h = absurd (omega (arith, h.3))

-- the first wrong byte is told, and no other place or kind
abbrev place_of : Result (List Token × List (ℕ × ℕ)) Fault → ℕ
place_of (Ok x) = 0
place_of (Err f) = f.1 + 1

wrong_byte : lexed (codes "a $ $") ≡ Err (BadByte, 2)
unfolding lexed lexed_from piece_at word_piece reserved_word opener_at attribute_at sign_piece double_sign single_sign
wrong_byte = refl

open_text : lexed (codes "a \"b") ≡ Err (Unclosed, 2)
unfolding lexed lexed_from piece_at word_piece reserved_word opener_at attribute_at text_from part_at
open_text = refl

wrong_byte_is : IsLexFault (codes "a $ $") (BadByte, 2)
wrong_byte_is = (faults_are (codes "a $ $") (BadByte, 2)).0 wrong_byte

the_second_wrong_byte : IsLexFault (codes "a $ $") (BadByte, 4) → ⊥
the_second_wrong_byte h =
    apart 3 5 (omega arith) (ap place_of (sym wrong_byte ∙ (faults_are (codes "a $ $") (BadByte, 4)).1 h))

a_name : lexed (codes "a") ≡ Ok (Named (codes "a") ∷ [], (0, 1) ∷ [])
unfolding lexed lexed_from piece_at word_piece reserved_word opener_at attribute_at
a_name = refl

no_fault : (f : Fault) → IsLexFault (codes "a") f → ⊥
no_fault f h = apart 0 (f.1 + 1) (omega arith) (ap place_of (sym a_name ∙ (faults_are (codes "a") f).1 h))
