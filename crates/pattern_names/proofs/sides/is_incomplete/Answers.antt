use Rattle.pattern_names.proofs.sides.is_incomplete.Goals as goal

-- the answer does not rest on the dentate
pub returns-in-Is : goal.returns-in-Is
returns-in-Is c = rw c.in-Is.is (c.lacks_dentate.ensures c.in-Is.dentate)
