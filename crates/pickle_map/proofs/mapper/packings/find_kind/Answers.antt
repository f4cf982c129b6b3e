use Rattle.pickle_map.proofs.KeptKinds.{apart_right, numbers_right, records_right, values_right}
use Rattle.pickle_map.proofs.mapper.packings.find_kind.Goals as goal

pub returns-in-Apart : goal.returns-in-Apart
returns-in-Apart c = apart_right _ c.in-Apart.ensures

pub returns-in-Numbers : goal.returns-in-Numbers
returns-in-Numbers c = numbers_right _ _ c.in-Numbers.ensures

pub returns-in-Records : goal.returns-in-Records
returns-in-Records c = records_right _ c.in-Records.ensures.widths c.in-Records.ensures.is

pub returns-in-Values : goal.returns-in-Values
returns-in-Values c = values_right _ _ c.in-Values.ensures.0
