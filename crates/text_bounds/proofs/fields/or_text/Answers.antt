use Rattle.text_bounds.proofs.fields.or_text.Goals as goal

pub returns-in-Text : goal.returns-in-Text
returns-in-Text c n size same holds = rw (← same, c.in-Text.is) (c.greater.ensures _ _ c.text_size.ensures holds)
