-- The service calls: their names and their numbers.
use Rattle.std.specs.Prelude.{ℕ, List, [], ◌∷◌, codes}
use Rattle.wedge_base.specs.declared.service.Service.{Service}
use Rattle.wedge_base.specs.declared.service.Service.TheVariants as service

abbrev pub service_name : Service → List ℕ
service_name service.Exit = codes "exit"
service_name service.SthreadCreate = codes "sthread_create"
service_name service.SthreadJoin = codes "sthread_join"
service_name service.TagNew = codes "tag_new"
service_name service.TagDelete = codes "tag_delete"
service_name service.Smalloc = codes "smalloc"
service_name service.Sfree = codes "sfree"
service_name service.ScNew = codes "sc_new"
service_name service.ScMemAdd = codes "sc_mem_add"
service_name service.ScFdAdd = codes "sc_fd_add"
service_name service.ScCgateAdd = codes "sc_cgate_add"
service_name service.ScUser = codes "sc_user"
service_name service.ScRoot = codes "sc_root"
service_name service.CgateMake = codes "cgate_make"
service_name service.Cgate = codes "cgate"
service_name service.FdRead = codes "fd_read"
service_name service.FdAppend = codes "fd_append"
service_name service.FdClose = codes "fd_close"
service_name service.FileOpen = codes "file_open"

abbrev pub service_number : Service → ℕ
service_number service.Exit = 0
service_number service.SthreadCreate = 1
service_number service.SthreadJoin = 2
service_number service.TagNew = 3
service_number service.TagDelete = 4
service_number service.Smalloc = 5
service_number service.Sfree = 6
service_number service.ScNew = 7
service_number service.ScMemAdd = 8
service_number service.ScFdAdd = 9
service_number service.ScCgateAdd = 10
service_number service.ScUser = 11
service_number service.ScRoot = 12
service_number service.CgateMake = 13
service_number service.Cgate = 14
service_number service.FdRead = 15
service_number service.FdAppend = 16
service_number service.FdClose = 17
service_number service.FileOpen = 18

-- every service call
abbrev pub services : List Service
services =
    service.Exit ∷
    service.SthreadCreate ∷
    service.SthreadJoin ∷
    service.TagNew ∷
    service.TagDelete ∷
    service.Smalloc ∷
    service.Sfree ∷
    service.ScNew ∷
    service.ScMemAdd ∷
    service.ScFdAdd ∷
    service.ScCgateAdd ∷
    service.ScUser ∷
    service.ScRoot ∷
    service.CgateMake ∷
    service.Cgate ∷
    service.FdRead ∷
    service.FdAppend ∷
    service.FdClose ∷
    service.FileOpen ∷
    []
