use Rattle.situation_images.proofs.putting.put_by.Given as goal

abbrev pub ghost-apply : goal.ghost-apply
ghost-apply g a = g.Q.RunSoFar.leads_to a.disciplines.now (g.Q.Disciplines.subject a.disciplines.now)
